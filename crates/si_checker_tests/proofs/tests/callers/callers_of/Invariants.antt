use Rattle.std.proofs.Common.{◌≡◌, All}
use Rattle.si_checker_tests.proofs.tests.callers.callers_of.Given as goal

abbrev pub invariant-loop : goal.invariant-loop
invariant-loop g l = All (λ p. p.table ≡ g.N.Name.board.table) l.passes.items
