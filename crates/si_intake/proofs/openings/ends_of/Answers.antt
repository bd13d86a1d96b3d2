use Rattle.std.proofs.Common.{ap}
use Rattle.si_intake.proofs.Rules.{forks}
use Rattle.si_intake.proofs.openings.ends_of.Goals as goal

pub another-seat-requires-clause-rule : goal.another-seat-requires-clause-rule
another-seat-requires-clause-rule c = let is = c.loop-source.invariant.2 in forks _ _ (ap (λ v. v.gets) is) (ap (λ v. v.sends) is)
