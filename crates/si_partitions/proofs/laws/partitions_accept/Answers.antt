use Rattle.si_partitions.proofs.Accepted.{accepts}
use Rattle.si_partitions.proofs.laws.partitions_accept.Goals as goal

pub returns : goal.returns
returns c = accepts
