use Rattle.std.proofs.Common.{◌≡◌, ◌-◌, []}
use Rattle.si_text.specs.Inputs.{Yields}
use Rattle.si_text.specs.LineBuffers.{bytes_to_come, CountsBytes}
use Rattle.si_text.proofs.read_lines.LineBuffer.next_item.Given as goal

-- the pieces so far gave no item, and no read failed
abbrev pub invariant-pieces : goal.invariant-pieces
invariant-pieces g l =
    let seen = g.S.ByteSource.seen in
    Yields l.initial.self.lines (bytes_to_come l.initial.self (seen l.initial.source).left) l.self.lines (bytes_to_come l.self (seen l.source).left) []
    × CountsBytes l.initial.self (seen l.initial.source).left l.self (seen l.source).left
    × ((seen l.source).failed ≡ (seen l.initial.source).failed)
    × ((seen l.source).turned ≡ (seen l.initial.source).turned)

abbrev pub decreases-pieces : goal.decreases-pieces
decreases-pieces g l = 18446744073709551615 - l.self.reads
