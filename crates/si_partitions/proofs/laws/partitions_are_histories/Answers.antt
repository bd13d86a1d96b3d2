use Rattle.si_partitions.proofs.Projected.{histories}
use Rattle.si_partitions.proofs.laws.partitions_are_histories.Goals as goal

pub returns : goal.returns
returns c = histories
