use Rattle.si_core.proofs.Soundness.{runs_keep_sound}
use Rattle.si_core.proofs.laws.runs_keep_sound.Goals as goal

pub returns : goal.returns
returns c = runs_keep_sound
