use Rattle.std.proofs.Common.{◌≡◌}
use Rattle.si_model.specs.Journals.{present}
use Rattle.si_shard.specs.Laws.{findings_below}
use Rattle.si_words.specs.Entries.{edits_of}
use Rattle.si_checker.proofs.checkers.Checker.settle.Given as goal

abbrev pub invariant-loop-k : goal.invariant-loop-k
invariant-loop-k g l =
    (l.locked_book ≡ l.fn.locked_book)
    × (l.found.items ≡ findings_below l.k g.N.Name.board.shards (present (edits_of l.fn.locked_book.journal)))
