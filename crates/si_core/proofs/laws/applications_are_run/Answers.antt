use Rattle.si_core.proofs.Reaching.{applications_are_run}
use Rattle.si_core.proofs.laws.applications_are_run.Goals as goal

pub returns : goal.returns
returns c = applications_are_run
