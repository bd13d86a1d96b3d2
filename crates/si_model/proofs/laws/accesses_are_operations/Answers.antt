use Rattle.si_model.proofs.KeyParts.{accesses_are}
use Rattle.si_model.proofs.laws.accesses_are_operations.Goals as goal

pub returns : goal.returns
returns c = accesses_are
