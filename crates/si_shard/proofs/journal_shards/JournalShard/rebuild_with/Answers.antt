use Rattle.si_shard.proofs.Beginnings.{beginning_accepted}
use Rattle.si_shard.proofs.journal_shards.JournalShard.rebuild_with.Goals as goal

pub applied_anew-requires-clause-accepted : goal.applied_anew-requires-clause-accepted
applied_anew-requires-clause-accepted c = beginning_accepted c.args.journal.now c.args.self.now.position c.requires.accepted
