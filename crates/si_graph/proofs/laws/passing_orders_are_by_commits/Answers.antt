use Rattle.si_graph.proofs.VersionOrders.{by_commits}
use Rattle.si_graph.proofs.laws.passing_orders_are_by_commits.Goals as goal

pub returns : goal.returns
returns k = λ P o h orders si. by_commits k.model_laws.ensures P h o orders si
