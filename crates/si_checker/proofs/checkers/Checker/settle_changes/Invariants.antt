use Rattle.std.proofs.Common.{◌≡◌, take}
use Rattle.si_model.specs.Journals.{present}
use Rattle.si_shard.specs.Laws.{changes_below}
use Rattle.si_words.specs.Entries.{edits_of}
use Rattle.si_checker.proofs.checkers.Checker.settle_changes.Given as goal

abbrev pub invariant-loop-k : goal.invariant-loop-k
invariant-loop-k g l =
    (l.locked_book ≡ l.fn.locked_book)
    × (l.changes.came.items ≡ changes_below l.k g.N.Name.board.shards (present (take l.since (edits_of l.fn.locked_book.journal))) (present (edits_of l.fn.locked_book.journal)))
    × (l.changes.went.items ≡ changes_below l.k g.N.Name.board.shards (present (edits_of l.fn.locked_book.journal)) (present (take l.since (edits_of l.fn.locked_book.journal))))
