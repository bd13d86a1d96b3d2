use Rattle.std.proofs.Common.{◌≡◌}
use Rattle.std.specs.Prelude.{All}
use Rattle.si_checker_tests.proofs.tests.words.workers_of.Given as goal

abbrev pub invariant-loop : goal.invariant-loop
invariant-loop g l = All (λ s. (s.table ≡ l.words.table) × (s.view.done ≡ 0)) l.seats.items × All (λ w. w.seat.table ≡ l.words.table) l.workers.items
