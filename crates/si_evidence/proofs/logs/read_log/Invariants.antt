use Rattle.std.proofs.Common.{◌≡◌, ◌≤◌, ◌+◌, length}
use Rattle.si_text.specs.Inputs.{items_of, items_after}
use Rattle.si_evidence.specs.Judging.{logged_through, unread}
use Rattle.si_evidence.proofs.logs.read_log.Given as goal

-- what is read leads to the same as all lines do
abbrev pub invariant-lines : goal.invariant-lines
invariant-lines l = (logged_through unread (items_of l.bytes) ≡ logged_through l.log (items_after l.number l.rest)) × (l.log.refused ≤ l.number) × (l.number + length l.rest ≤ length l.bytes)

abbrev pub decreases-lines : goal.decreases-lines
decreases-lines l = length l.rest
