use Rattle.si_core.proofs.Alike.{run_is_function}
use Rattle.si_core.proofs.laws.run_is_function.Goals as goal

pub returns : goal.returns
returns c = run_is_function
