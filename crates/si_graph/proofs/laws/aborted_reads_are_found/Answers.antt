use Rattle.si_graph.proofs.Emptiness.{aborted_both}
use Rattle.si_graph.proofs.laws.aborted_reads_are_found.Goals as goal

pub returns : goal.returns
returns c = aborted_both c.model_laws.ensures
