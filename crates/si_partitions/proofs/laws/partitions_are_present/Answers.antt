use Rattle.si_partitions.proofs.Projected.{presents}
use Rattle.si_partitions.proofs.laws.partitions_are_present.Goals as goal

pub returns : goal.returns
returns c = presents
