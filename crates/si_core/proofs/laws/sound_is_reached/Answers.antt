use Rattle.si_core.proofs.Reaching.{sound_is_reached}
use Rattle.si_core.proofs.laws.sound_is_reached.Goals as goal

pub returns : goal.returns
returns c = sound_is_reached
