use Rattle.si_judge.proofs.Following.{edits_follow}
use Rattle.si_judge.proofs.laws.edits_follow.Goals as goal

pub returns : goal.returns
returns c = edits_follow
