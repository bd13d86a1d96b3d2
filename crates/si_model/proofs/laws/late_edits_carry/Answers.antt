use Rattle.si_model.proofs.LateEdits.{late_edit}
use Rattle.si_model.proofs.laws.late_edits_carry.Goals as goal

pub returns : goal.returns
returns c = late_edit
