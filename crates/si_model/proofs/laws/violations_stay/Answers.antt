use Rattle.si_model.proofs.Staying.{violations_stay}
use Rattle.si_model.proofs.laws.violations_stay.Goals as goal

pub returns : goal.returns
returns c = violations_stay
