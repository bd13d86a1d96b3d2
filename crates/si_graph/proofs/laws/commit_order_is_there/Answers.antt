use Rattle.si_graph.proofs.CommitOrders.{order_there}
use Rattle.si_graph.proofs.laws.commit_order_is_there.Goals as goal

pub returns : goal.returns
returns k = order_there
