use Rattle.si_core.proofs.Soundness.{runs_join}
use Rattle.si_core.proofs.laws.runs_join.Goals as goal

pub returns : goal.returns
returns c = runs_join
