use Rattle.si_partitions.proofs.Found.{finds}
use Rattle.si_partitions.proofs.laws.partitions_find.Goals as goal

pub returns : goal.returns
returns c = finds
