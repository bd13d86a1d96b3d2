use Rattle.si_judge.proofs.Following.{parts_had}
use Rattle.si_judge.proofs.laws.parts_are_had.Goals as goal

pub returns : goal.returns
returns c = parts_had
