use Rattle.si_graph.proofs.Emptiness.{intermediate_both}
use Rattle.si_graph.proofs.laws.intermediate_reads_are_found.Goals as goal

pub returns : goal.returns
returns c = intermediate_both c.model_laws.ensures
