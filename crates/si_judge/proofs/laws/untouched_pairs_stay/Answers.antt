use Rattle.si_judge.proofs.Staying.{pairs_stay}
use Rattle.si_judge.proofs.laws.untouched_pairs_stay.Goals as goal

pub returns : goal.returns
returns c = pairs_stay
