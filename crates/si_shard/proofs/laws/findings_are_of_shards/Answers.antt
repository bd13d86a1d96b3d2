use Rattle.si_shard.proofs.ShardsTogether.{findings_of_shards}
use Rattle.si_shard.proofs.laws.findings_are_of_shards.Goals as goal

pub returns : goal.returns
returns c = findings_of_shards
