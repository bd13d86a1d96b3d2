use Rattle.si_graph.proofs.Cycles.{missed_walks_have_cycles}
use Rattle.si_graph.proofs.laws.missed_walks_have_cycles.Goals as goal

pub returns : goal.returns
returns c = missed_walks_have_cycles
