use Rattle.si_model.proofs.Verdicts.{told}
use Rattle.si_model.proofs.laws.violations_are_told.Goals as goal

pub returns : goal.returns
returns c = told
