use Rattle.std.proofs.Common.{◌≡◌, length}
use Rattle.std.specs.Prelude.{All}
use Rattle.si_checker_tests.proofs.tests.words.run_in_turn.Given as goal

abbrev pub invariant-loop-round : goal.invariant-loop-round
invariant-loop-round g l =
    (l.book.table ≡ l.words.table)
    × (length l.book.view.journal ≡ l.round)
    × (length l.workers ≡ 4)
    × All (λ w. w.seat.table ≡ l.words.table) l.workers
    × (length l.issuers ≡ 4)
    × All (λ i. i.pass.table ≡ l.words.table) l.issuers
    × (l.looker.table ≡ l.words.table)
