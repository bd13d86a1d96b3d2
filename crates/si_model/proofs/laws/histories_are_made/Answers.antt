use Rattle.si_model.proofs.Making.{made}
use Rattle.si_model.proofs.laws.histories_are_made.Goals as goal

pub returns : goal.returns
returns c = made
