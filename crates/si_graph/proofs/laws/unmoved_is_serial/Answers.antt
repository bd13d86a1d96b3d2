use Rattle.si_graph.proofs.CommitOrders.{unmoved_serial}
use Rattle.si_graph.proofs.laws.unmoved_is_serial.Goals as goal

pub returns : goal.returns
returns k = λ P R h clean of. unmoved_serial k.model_laws.ensures P R h clean of
