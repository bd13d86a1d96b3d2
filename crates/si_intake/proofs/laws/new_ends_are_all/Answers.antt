use Rattle.si_intake.proofs.Gathered.{all_new}
use Rattle.si_intake.proofs.laws.new_ends_are_all.Goals as goal

pub returns : goal.returns
returns c = all_new
