use Rattle.std.proofs.Common.{◌≡◌, ◌+◌, ◌≤◌, [], length}
use Rattle.si_text.specs.LineBuffers.{bytes_held, Passes}
use Rattle.si_text.proofs.read_lines.LineBuffer.next_in_piece.Given as goal

-- the lines that ended so far are blank
abbrev pub invariant-lines : goal.invariant-lines
invariant-lines l = Passes l.initial.self l.self [] × (l.self.reads ≡ l.initial.self.reads) × (l.self.lines + length (bytes_held l.self) ≤ l.initial.self.lines + length (bytes_held l.initial.self))

abbrev pub decreases-lines : goal.decreases-lines
decreases-lines l = length l.self.piece
