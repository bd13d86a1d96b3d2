use Rattle.si_judge.proofs.Following.{resolutions_follow}
use Rattle.si_judge.proofs.laws.resolutions_follow.Goals as goal

pub returns : goal.returns
returns c = resolutions_follow
