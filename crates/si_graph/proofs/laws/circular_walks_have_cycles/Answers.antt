use Rattle.si_graph.proofs.Cycles.{circular_walks_have_cycles}
use Rattle.si_graph.proofs.laws.circular_walks_have_cycles.Goals as goal

pub returns : goal.returns
returns c = circular_walks_have_cycles
