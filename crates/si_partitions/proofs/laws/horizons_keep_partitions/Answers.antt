use Rattle.si_partitions.proofs.Carried.{horizons_keep}
use Rattle.si_partitions.proofs.laws.horizons_keep_partitions.Goals as goal

pub returns : goal.returns
returns c = horizons_keep
