use Rattle.si_graph.proofs.ShownThere.{nothing_is_shown}
use Rattle.si_graph.proofs.laws.nothing_is_shown.Goals as goal

pub returns : goal.returns
returns c = nothing_is_shown c.model_laws.ensures
