use Rattle.si_model.proofs.Carrying.{carried_history}
use Rattle.si_model.proofs.laws.carried_is_history.Goals as goal

pub returns : goal.returns
returns c = carried_history
