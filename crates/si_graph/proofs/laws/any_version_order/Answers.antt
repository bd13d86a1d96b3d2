use Rattle.si_graph.proofs.VersionOrders.{any_order}
use Rattle.si_graph.proofs.laws.any_version_order.Goals as goal

pub returns : goal.returns
returns k = λ P h. any_order k.model_laws.ensures P h
