use Rattle.si_intake.proofs.Rules.{begins}
use Rattle.si_intake.proofs.Endings.{fresh}
use Rattle.si_intake.proofs.openings.open.Goals as goal

pub ruled-requires-clause-rule : goal.ruled-requires-clause-rule
ruled-requires-clause-rule c = begins

pub invariant_of-accepter : goal.invariant_of-accepter
invariant_of-accepter c = let f = fresh _ _ c.in_ok-ends.ensures.view in (c.in_ok-ends.ensures.own, f.0, f.1, f.2)
