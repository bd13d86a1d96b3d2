use Rattle.std.proofs.Common.{◌≡◌, ◌≤◌, ◌<◌, ◌-◌, ℕ, length, get_or, true}
use Rattle.si_text.proofs.usual_bytes.is_ascii.Given as goal

abbrev pub invariant-bytes : goal.invariant-bytes
invariant-bytes l = record { reached : l.i ≤ length l.bytes; below : l.ascii ≡ true → (k : ℕ) → k < l.i → get_or l.bytes k 0 < 128 }

abbrev pub decreases-bytes : goal.decreases-bytes
decreases-bytes l = length l.bytes - l.i
