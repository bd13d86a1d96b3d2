use Rattle.si_run.proofs.Gates.{violation_exact}
use Rattle.si_run.proofs.laws.violation_is_exact.Goals as goal

pub returns : goal.returns
returns c = violation_exact
