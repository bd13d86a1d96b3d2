use Rattle.si_partitions.proofs.Refused.{reasons}
use Rattle.si_partitions.proofs.laws.partitions_tell_reasons.Goals as goal

pub returns : goal.returns
returns c = reasons
