use Rattle.std.proofs.Common.{◌≡◌, ◌≤◌, length}
use Rattle.si_checker_tests.proofs.tests.words.issue_and_publish.Given as goal

abbrev pub invariant-loop-round : goal.invariant-loop-round
invariant-loop-round l =
    (l.book.table ≡ l.words.table)
    × (l.shard.table ≡ l.words.table)
    × (l.pass.table ≡ l.words.table)
    × (length l.book.view.journal ≡ l.round)
    × (l.shard.view.done ≤ l.round)
