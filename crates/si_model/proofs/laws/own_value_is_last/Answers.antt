use Rattle.si_model.proofs.LastWrites.{own_is_last}
use Rattle.si_model.proofs.laws.own_value_is_last.Goals as goal

pub returns : goal.returns
returns c = own_is_last
