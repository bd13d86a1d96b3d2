use Rattle.si_graph.proofs.SnapshotFindings.{apart_clean}
use Rattle.si_graph.proofs.laws.apart_is_clean.Goals as goal

pub returns : goal.returns
returns k = λ P h. apart_clean k.model_laws.ensures P h
