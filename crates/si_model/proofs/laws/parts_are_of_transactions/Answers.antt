use Rattle.si_model.proofs.KeyParts.{parts_are}
use Rattle.si_model.proofs.laws.parts_are_of_transactions.Goals as goal

pub returns : goal.returns
returns c = parts_are
