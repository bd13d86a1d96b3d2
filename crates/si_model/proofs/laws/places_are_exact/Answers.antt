use Rattle.si_model.proofs.Places.{places_exact}
use Rattle.si_model.proofs.laws.places_are_exact.Goals as goal

pub returns : goal.returns
returns c = places_exact
