use Rattle.std.proofs.Common.{take}
use Rattle.std.specs.List.{flat_map, enumerate_from}
use Rattle.si_chances.specs.Groups.{AddsSlots, slots_in}
use Rattle.si_chances.proofs.grouping.groups_of.Given as goal

abbrev pub invariant-loop-number : goal.invariant-loop-number
invariant-loop-number l = AddsSlots (λ x. flat_map (slots_in x) (enumerate_from 0 (take l.number l.txns))) l.initial.groups l.groups
