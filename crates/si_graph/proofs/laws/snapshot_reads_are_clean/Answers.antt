use Rattle.si_graph.proofs.SnapshotFindings.{snapshot_read_clean}
use Rattle.si_graph.proofs.laws.snapshot_reads_are_clean.Goals as goal

pub returns : goal.returns
returns k = λ P T c i x v h. snapshot_read_clean k.model_laws.ensures P h T c i x v
