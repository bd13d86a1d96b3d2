use Rattle.std.proofs.Common.{◌≤◌, ◌-◌, length, take}
use Rattle.si_text.specs.UsualBytes.{ArePlain}
use Rattle.si_text.proofs.usual_bytes.Rest.long_key.Given as goal

abbrev pub invariant-bytes : goal.invariant-bytes
invariant-bytes l = record { plain : ArePlain (take l.count l.text); within : l.count ≤ length l.text }

abbrev pub decreases-bytes : goal.decreases-bytes
decreases-bytes l = length l.text - l.count
