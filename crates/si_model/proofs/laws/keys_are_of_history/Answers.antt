use Rattle.si_model.proofs.Histories.{key_of_history}
use Rattle.si_model.proofs.laws.keys_are_of_history.Goals as goal

pub returns : goal.returns
returns c = key_of_history
