use Rattle.si_core.proofs.Soundness.{rebuild_keeps_sound}
use Rattle.si_core.proofs.laws.rebuild_keeps_sound.Goals as goal

pub returns : goal.returns
returns c = rebuild_keeps_sound
