use Rattle.std.proofs.Common.{◌≡◌, take}
use Rattle.std.specs.HashMap.{keys}
use Rattle.si_chances.specs.Counts.{chances_in}
use Rattle.si_chances.proofs.Totals.{all_on}
use Rattle.si_chances.proofs.counting.count.Given as goal

abbrev pub invariant-loop-place : goal.invariant-loop-place
invariant-loop-place l = l.chances ≡ chances_in (all_on l.txns (take l.place (keys l.groups)))
