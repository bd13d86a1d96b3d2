use Rattle.si_graph.proofs.WritersEnough.{writers_are_enough}
use Rattle.si_graph.proofs.laws.writers_are_enough.Goals as goal

pub returns : goal.returns
returns c = writers_are_enough c.model_laws.ensures
