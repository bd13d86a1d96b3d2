use Rattle.si_graph.proofs.Emptiness.{missed_both}
use Rattle.si_graph.proofs.laws.missed_effects_are_found.Goals as goal

pub returns : goal.returns
returns c = missed_both c.model_laws.ensures
