use Rattle.si_intake.proofs.Gathered.{lone_source}
use Rattle.si_intake.proofs.laws.lone_source_is_whole.Goals as goal

pub returns : goal.returns
returns c = lone_source
