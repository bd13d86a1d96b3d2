use Rattle.si_model.proofs.Sources.{writer_found}
use Rattle.si_model.proofs.laws.writer_is_found.Goals as goal

pub returns : goal.returns
returns c = writer_found
