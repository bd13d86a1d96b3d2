use Rattle.si_graph.proofs.SerialFindings.{serial_clean}
use Rattle.si_graph.proofs.laws.serial_is_clean.Goals as goal

pub returns : goal.returns
returns k = λ P h ordered. serial_clean k.model_laws.ensures P h ordered
