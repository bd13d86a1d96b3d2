use Rattle.si_model.proofs.Sources.{sight_law}
use Rattle.si_model.proofs.laws.sight_is_exact.Goals as goal

pub returns : goal.returns
returns c = sight_law
