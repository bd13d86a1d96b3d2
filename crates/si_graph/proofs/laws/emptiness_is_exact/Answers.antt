use Rattle.si_graph.proofs.Emptiness.{empty_both}
use Rattle.si_graph.proofs.laws.emptiness_is_exact.Goals as goal

pub returns : goal.returns
returns c = empty_both c.model_laws.ensures
