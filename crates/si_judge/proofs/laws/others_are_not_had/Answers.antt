use Rattle.si_judge.proofs.Following.{others_not_had}
use Rattle.si_judge.proofs.laws.others_are_not_had.Goals as goal

pub returns : goal.returns
returns c = others_not_had
