use Rattle.si_model.proofs.LateEdits.{late_journal}
use Rattle.si_model.proofs.laws.late_journals_carry.Goals as goal

pub returns : goal.returns
returns c = late_journal
