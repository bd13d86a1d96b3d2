use Rattle.std.proofs.Common.{length}
use Rattle.si_text.proofs.TokenOperations.{AreTaken}
use Rattle.si_text.proofs.token_lines.gather.Given as goal

abbrev pub invariant-items : goal.invariant-items
invariant-items l = AreTaken l.initial.reader l.reader l.ops.items

abbrev pub decreases-items : goal.decreases-items
decreases-items l = length l.reader
