use Rattle.si_run.proofs.Gates.{expect_adds}
use Rattle.si_run.proofs.laws.expect_adds.Goals as goal

pub returns : goal.returns
returns c = expect_adds
