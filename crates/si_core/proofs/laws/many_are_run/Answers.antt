use Rattle.si_core.proofs.ManySteps.{many_are_run}
use Rattle.si_core.proofs.laws.many_are_run.Goals as goal

pub returns : goal.returns
returns c = many_are_run
