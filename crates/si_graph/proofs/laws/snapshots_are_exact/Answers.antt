use Rattle.si_graph.proofs.SnapshotFindings.{snapshots_exact}
use Rattle.si_graph.proofs.laws.snapshots_are_exact.Goals as goal

pub returns : goal.returns
returns k = λ P h. snapshots_exact k.model_laws.ensures P h
