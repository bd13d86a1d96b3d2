use Rattle.std.proofs.Common.{◌≡◌, ◌+◌, vec_len}
use Rattle.si_shard.specs.ToldEdits.{AreTold}
use Rattle.si_checker.proofs.locked_books.copies.Given as goal

abbrev pub invariant-loop-place : goal.invariant-loop-place
invariant-loop-place l = AreTold l.book.journal l.from l.copies.items × (l.from + vec_len l.copies ≡ l.place)
