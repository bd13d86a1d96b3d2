use Rattle.si_graph.proofs.Emptiness.{circular_interferes}
use Rattle.si_graph.proofs.laws.circular_flow_interferes.Goals as goal

pub returns : goal.returns
returns c = circular_interferes c.model_laws.ensures
