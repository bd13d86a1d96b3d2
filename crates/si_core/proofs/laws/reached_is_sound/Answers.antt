use Rattle.si_core.proofs.Soundness.{reached_is_sound}
use Rattle.si_core.proofs.laws.reached_is_sound.Goals as goal

pub returns : goal.returns
returns c = reached_is_sound
