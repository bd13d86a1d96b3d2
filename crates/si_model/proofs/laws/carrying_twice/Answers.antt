use Rattle.si_model.proofs.CarryingTwice.{twice}
use Rattle.si_model.proofs.laws.carrying_twice.Goals as goal

pub returns : goal.returns
returns c = twice
