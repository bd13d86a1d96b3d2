use Rattle.si_model.proofs.Below.{finals_final}
use Rattle.si_model.proofs.laws.finals_are_final.Goals as goal

pub returns : goal.returns
returns c = finals_final
