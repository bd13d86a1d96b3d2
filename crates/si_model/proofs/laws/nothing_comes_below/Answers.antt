use Rattle.si_model.proofs.Below.{nothing_below}
use Rattle.si_model.proofs.laws.nothing_comes_below.Goals as goal

pub returns : goal.returns
returns c = nothing_below
