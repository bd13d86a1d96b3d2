use Rattle.si_partitions.proofs.Projected.{edits_keep}
use Rattle.si_partitions.proofs.laws.edits_keep_partitions.Goals as goal

pub returns : goal.returns
returns c = edits_keep
