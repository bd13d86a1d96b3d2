use Rattle.si_graph.proofs.UnstampedFindings.{no_stamps_mend_knot}
use Rattle.si_graph.proofs.laws.no_stamps_mend_knots.Goals as goal

pub returns : goal.returns
returns k = no_stamps_mend_knot k.model_laws.ensures
