use Rattle.si_graph.proofs.Emptiness.{interference_both}
use Rattle.si_graph.proofs.laws.interference_is_found.Goals as goal

pub returns : goal.returns
returns c = interference_both c.model_laws.ensures
