use Rattle.si_model.proofs.PresentHistories.{present_history}
use Rattle.si_model.proofs.laws.present_is_history.Goals as goal

pub returns : goal.returns
returns c = present_history
