use Rattle.si_text.proofs.LineConditions.{least_fault}
use Rattle.si_text.proofs.laws.least_fault_is_told.Goals as goal

pub returns : goal.returns
returns c = least_fault
