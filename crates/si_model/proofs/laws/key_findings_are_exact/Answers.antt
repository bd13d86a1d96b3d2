use Rattle.si_model.proofs.Exact.{key_findings_exact}
use Rattle.si_model.proofs.laws.key_findings_are_exact.Goals as goal

pub returns : goal.returns
returns c = λ J x Q h. key_findings_exact J Q h x
