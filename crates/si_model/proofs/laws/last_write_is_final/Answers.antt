use Rattle.si_model.proofs.LastWrites.{last_is_final}
use Rattle.si_model.proofs.laws.last_write_is_final.Goals as goal

pub returns : goal.returns
returns c = last_is_final
