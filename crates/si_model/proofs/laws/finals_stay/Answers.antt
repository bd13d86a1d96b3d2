use Rattle.si_model.proofs.Finals.{finals}
use Rattle.si_model.proofs.laws.finals_stay.Goals as goal

pub returns : goal.returns
returns c = finals
