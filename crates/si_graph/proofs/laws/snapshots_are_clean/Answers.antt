use Rattle.si_graph.proofs.SnapshotFindings.{snapshots_clean}
use Rattle.si_graph.proofs.laws.snapshots_are_clean.Goals as goal

pub returns : goal.returns
returns k = λ P h. snapshots_clean k.model_laws.ensures P h
