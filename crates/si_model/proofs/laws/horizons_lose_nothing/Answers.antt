use Rattle.si_model.proofs.HorizonRuns.{lose_nothing}
use Rattle.si_model.proofs.laws.horizons_lose_nothing.Goals as goal

pub returns : goal.returns
returns c = lose_nothing
