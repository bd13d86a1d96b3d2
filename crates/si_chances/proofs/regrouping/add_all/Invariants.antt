use Rattle.std.proofs.Common.{◌≡◌, take}
use Rattle.std.specs.List.{fold}
use Rattle.si_chances.specs.Groups.{with_slot}
use Rattle.si_chances.proofs.regrouping.add_all.Given as goal

abbrev pub invariant-loop-number : goal.invariant-loop-number
invariant-loop-number l = l.parts.items ≡ fold (with_slot l.txns) l.fn.parts.items (take l.number l.slots)
