use Rattle.si_model.proofs.FindingOrder.{exact_findings}
use Rattle.si_model.proofs.findings.findings_of.Goals as goal

pub put_in_order-requires : goal.put_in_order-requires
put_in_order-requires c = record { exact = exact_findings }
