use Rattle.std.proofs.Common.{◌≤◌, ◌-◌, length, take}
use Rattle.si_text.specs.UsualBytes.{AreDigits}
use Rattle.si_text.proofs.usual_bytes.digits.Given as goal

abbrev pub invariant-digits : goal.invariant-digits
invariant-digits l = record { digits : AreDigits l.number (take l.count l.bytes); few : l.count ≤ 19; within : l.count ≤ length l.bytes }

abbrev pub decreases-digits : goal.decreases-digits
decreases-digits l = 19 - l.count
