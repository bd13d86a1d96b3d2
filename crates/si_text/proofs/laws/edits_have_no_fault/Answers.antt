use Rattle.si_text.proofs.LineConditions.{no_fault}
use Rattle.si_text.proofs.laws.edits_have_no_fault.Goals as goal

pub returns : goal.returns
returns c = no_fault
