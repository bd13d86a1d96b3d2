use Rattle.std.proofs.Common.{◌≡◌, map, take}
use Rattle.si_chances.specs.Groups.{access_at}
use Rattle.si_chances.proofs.regrouping.read_all.Given as goal

abbrev pub invariant-loop-slot : goal.invariant-loop-slot
invariant-loop-slot l = l.read.items ≡ map (access_at l.txns) (take l.slot-index l.slots)
