use Rattle.si_graph.proofs.UnstampedFindings.{no_stamps_mend_fork}
use Rattle.si_graph.proofs.laws.no_stamps_mend_forks.Goals as goal

pub returns : goal.returns
returns k = no_stamps_mend_fork k.model_laws.ensures
