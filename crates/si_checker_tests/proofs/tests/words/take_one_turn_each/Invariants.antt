use Rattle.std.proofs.Common.{◌≡◌, length}
use Rattle.std.specs.Prelude.{All}
use Rattle.si_checker_tests.proofs.tests.words.take_one_turn_each.Given as goal

abbrev pub invariant-loop-turn : goal.invariant-loop-turn
invariant-loop-turn g l =
    (l.book.table ≡ l.words.table)
    × (length l.book.view.journal ≡ l.turn)
    × (length l.workers ≡ 16)
    × All (λ w. w.seat.table ≡ l.words.table) l.workers
    × (length l.issuers ≡ 16)
    × All (λ i. i.pass.table ≡ l.words.table) l.issuers
