use Rattle.si_model.proofs.Losses.{nothing_lost}
use Rattle.si_model.proofs.laws.nothing_is_lost.Goals as goal

pub returns : goal.returns
returns c = nothing_lost
