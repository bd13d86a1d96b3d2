use Rattle.si_graph.proofs.CommitChains.{acyclic, pl3}
use Rattle.si_graph.proofs.laws.clean_is_serializable.Goals as goal

pub returns : goal.returns
returns k = λ P h ordered none. (acyclic k.model_laws.ensures P h ordered none, pl3 k.model_laws.ensures P h ordered none)
