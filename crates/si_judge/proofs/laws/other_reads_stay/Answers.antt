use Rattle.si_judge.proofs.Staying.{others_stay}
use Rattle.si_judge.proofs.laws.other_reads_stay.Goals as goal

pub returns : goal.returns
returns c = others_stay
