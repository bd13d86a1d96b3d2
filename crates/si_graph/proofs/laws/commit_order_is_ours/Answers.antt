use Rattle.si_graph.proofs.VersionOrders.{pl_si_same}
use Rattle.si_graph.proofs.laws.commit_order_is_ours.Goals as goal

pub returns : goal.returns
returns k = λ P o h by. pl_si_same k.model_laws.ensures P h o by
