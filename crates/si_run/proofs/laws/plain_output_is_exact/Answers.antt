use Rattle.si_run.proofs.PlainOutputs.{plain_output}
use Rattle.si_run.proofs.laws.plain_output_is_exact.Goals as goal

pub returns : goal.returns
returns c = plain_output
