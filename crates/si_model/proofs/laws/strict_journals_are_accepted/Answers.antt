use Rattle.si_model.proofs.PresentHistories.{strict_accepted}
use Rattle.si_model.proofs.laws.strict_journals_are_accepted.Goals as goal

pub returns : goal.returns
returns c = strict_accepted
