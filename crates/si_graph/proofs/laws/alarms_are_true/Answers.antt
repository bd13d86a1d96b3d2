use Rattle.si_graph.proofs.SnapshotFindings.{alarm_true}
use Rattle.si_graph.proofs.laws.alarms_are_true.Goals as goal

pub returns : goal.returns
returns k = λ P f h. alarm_true k.model_laws.ensures P h f
