use Rattle.si_graph.proofs.Explained.{explained}
use Rattle.si_graph.proofs.laws.explained_is_shown.Goals as goal

pub returns : goal.returns
returns c = λ P f e h is. explained c.model_laws.ensures P h f is e
