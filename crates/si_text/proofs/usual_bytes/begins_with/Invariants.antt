use Rattle.std.proofs.Common.{◌≡◌, ◌≤◌, ◌-◌, length, take, true}
use Rattle.si_text.proofs.usual_bytes.begins_with.Given as goal

abbrev pub invariant-bytes : goal.invariant-bytes
invariant-bytes l = record { reached : l.i ≤ length l.word; alike : l.same ≡ true → take l.i l.bytes ≡ take l.i l.word }

abbrev pub decreases-bytes : goal.decreases-bytes
decreases-bytes l = length l.word - l.i
