use Rattle.si_model.proofs.AllKeys.{no_place}
use Rattle.si_model.proofs.laws.no_place_elsewhere.Goals as goal

pub returns : goal.returns
returns c = no_place
