use Rattle.si_run.proofs.Changed.{tell_all}
use Rattle.si_run.proofs.laws.changes_tell_all.Goals as goal

pub returns : goal.returns
returns c = tell_all
