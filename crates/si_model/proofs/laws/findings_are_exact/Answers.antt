use Rattle.si_model.proofs.Exact.{findings_exact}
use Rattle.si_model.proofs.laws.findings_are_exact.Goals as goal

pub returns : goal.returns
returns c = findings_exact
