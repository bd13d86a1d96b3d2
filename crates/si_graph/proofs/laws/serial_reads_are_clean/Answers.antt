use Rattle.si_graph.proofs.SerialFindings.{reads_clean}
use Rattle.si_graph.proofs.laws.serial_reads_are_clean.Goals as goal

pub returns : goal.returns
returns k = λ P T c i x v h ordered. reads_clean k.model_laws.ensures P h ordered T c i x v
