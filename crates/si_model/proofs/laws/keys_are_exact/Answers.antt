use Rattle.si_model.proofs.AllKeys.{keys_exact}
use Rattle.si_model.proofs.laws.keys_are_exact.Goals as goal

pub returns : goal.returns
returns c = keys_exact
