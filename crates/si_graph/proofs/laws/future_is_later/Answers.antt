use Rattle.si_graph.proofs.SerialFindings.{future_later}
use Rattle.si_graph.proofs.laws.future_is_later.Goals as goal

pub returns : goal.returns
returns k = λ P x t i v u h ordered. future_later k.model_laws.ensures P h ordered x t i v u
