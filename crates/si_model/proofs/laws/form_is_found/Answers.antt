use Rattle.si_model.proofs.Formed.{form_found}
use Rattle.si_model.proofs.laws.form_is_found.Goals as goal

pub returns : goal.returns
returns c = form_found
