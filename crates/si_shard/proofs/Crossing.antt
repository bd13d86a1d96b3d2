-- A shard may go to another thread, and be shared.
use denote.Param.Send.{IsSend, IsSync}
use Rattle.si_shard.specs.contracts.journal_shards.JournalShard as Shard
use Rattle.si_shard.proofs.journal_shards.JournalShard.TheSendSync as shard

pub shard_send : IsSend Shard.the_row
shard_send = shard.the_send

pub shard_sync : IsSync Shard.the_row
shard_sync = shard.the_sync
