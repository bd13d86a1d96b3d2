use Rattle.std.proofs.Common.{◌≡◌, ◌≤◌, ◌-◌, length, take}
use Rattle.si_chances.specs.Groups.{parts_at}
use Rattle.si_chances.proofs.regrouping.parts_at.Given as goal

abbrev pub invariant-loop-at : goal.invariant-loop-at
invariant-loop-at l = record { within : l.at ≤ length l.slots; parts : l.parts.items ≡ parts_at l.txns (take l.at l.slots) }

abbrev pub decreases-loop-at : goal.decreases-loop-at
decreases-loop-at l = length l.slots - l.at
