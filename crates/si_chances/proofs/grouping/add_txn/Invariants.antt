use Rattle.std.proofs.Common.{take}
use Rattle.std.specs.List.{flat_map, enumerate_from}
use Rattle.si_chances.specs.Groups.{AddsSlots, slots_by}
use Rattle.si_chances.proofs.grouping.add_txn.Given as goal

abbrev pub invariant-loop-place : goal.invariant-loop-place
invariant-loop-place l = AddsSlots (λ x. flat_map (slots_by x l.number) (enumerate_from 0 (take l.place l.op-items))) l.fn.groups l.groups
