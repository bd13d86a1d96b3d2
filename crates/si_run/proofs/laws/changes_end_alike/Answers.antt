use Rattle.si_run.proofs.Changed.{end_alike}
use Rattle.si_run.proofs.laws.changes_end_alike.Goals as goal

pub returns : goal.returns
returns c = end_alike
