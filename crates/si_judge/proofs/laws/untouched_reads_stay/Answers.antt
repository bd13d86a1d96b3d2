use Rattle.si_judge.proofs.Staying.{reads_stay}
use Rattle.si_judge.proofs.laws.untouched_reads_stay.Goals as goal

pub returns : goal.returns
returns c = reads_stay
