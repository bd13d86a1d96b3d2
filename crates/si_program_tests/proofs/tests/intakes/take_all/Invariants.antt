use Rattle.std.proofs.Common.{◌≡◌}
use Rattle.si_program_tests.proofs.tests.intakes.take_all.Given as goal

abbrev pub invariant-loop : goal.invariant-loop
invariant-loop g l = (l.accepter.intake ≡ l.fn.accepter.intake) × (l.accepter.sources ≡ l.fn.accepter.sources)
