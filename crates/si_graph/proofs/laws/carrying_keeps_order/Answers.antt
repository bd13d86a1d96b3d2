use Rattle.si_graph.proofs.HorizonOrder.{keeps_order}
use Rattle.si_graph.proofs.laws.carrying_keeps_order.Goals as goal

pub returns : goal.returns
returns k = keeps_order k.carried_is_exact.ensures
