use Rattle.si_model.proofs.LastWrites.{install_is}
use Rattle.si_model.proofs.laws.install_is_exact.Goals as goal

pub returns : goal.returns
returns c = install_is
