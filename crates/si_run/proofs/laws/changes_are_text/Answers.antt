use Rattle.si_run.proofs.Changed.{are_text}
use Rattle.si_run.proofs.laws.changes_are_text.Goals as goal

pub returns : goal.returns
returns c = are_text
