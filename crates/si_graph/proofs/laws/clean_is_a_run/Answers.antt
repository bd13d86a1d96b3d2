use Rattle.si_graph.proofs.SerialFindings.{serial_clean}
use Rattle.si_graph.proofs.SerialRuns.{run_serial}
use Rattle.si_graph.proofs.SortedRuns.{in_order}
use Rattle.si_graph.proofs.laws.clean_is_a_run.Goals as goal

pub returns : goal.returns
returns k = λ P h ordered. (let clean = serial_clean k.model_laws.ensures P h ordered in (
  λ none. (let run = in_order P h in (run.0, run.1, (run_serial k.model_laws.ensures P h run.0 run.1).1 (clean.0 none))),
  λ r. clean.1 ((run_serial k.model_laws.ensures P h r.0 r.1).0 r.2),
))
