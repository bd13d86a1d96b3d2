use Rattle.si_graph.proofs.SerialFindings.{none_overlaps}
use Rattle.si_graph.proofs.laws.none_overlaps.Goals as goal

pub returns : goal.returns
returns k = λ P h ordered. none_overlaps k.model_laws.ensures P h ordered
