use Rattle.si_graph.proofs.ShownThere.{shown_is_there}
use Rattle.si_graph.proofs.laws.shown_is_there.Goals as goal

pub returns : goal.returns
returns c = shown_is_there c.model_laws.ensures
