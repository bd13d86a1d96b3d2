use Rattle.si_model.proofs.Histories.{id_found}
use Rattle.si_model.proofs.laws.id_is_found.Goals as goal

pub returns : goal.returns
returns c = id_found
