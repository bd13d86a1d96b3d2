use Rattle.si_partitions.proofs.Accepted.{journals}
use Rattle.si_partitions.proofs.laws.partitions_are_accepted.Goals as goal

pub returns : goal.returns
returns c = journals
