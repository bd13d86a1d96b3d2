use Rattle.si_judge.proofs.Following.{set_ups_follow}
use Rattle.si_judge.proofs.laws.set_ups_follow.Goals as goal

pub returns : goal.returns
returns c = set_ups_follow
