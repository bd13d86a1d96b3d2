use Rattle.si_graph.proofs.SerialRuns.{run_serial}
use Rattle.si_graph.proofs.laws.runs_are_serial.Goals as goal

pub returns : goal.returns
returns k = λ P run h order. run_serial k.model_laws.ensures P h run order
