use Rattle.si_model.proofs.Staying.{phenomena_stay}
use Rattle.si_model.proofs.laws.phenomena_stay.Goals as goal

pub returns : goal.returns
returns c = phenomena_stay
