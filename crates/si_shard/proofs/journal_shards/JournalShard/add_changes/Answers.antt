use Rattle.si_shard.proofs.Beginnings.{beginning_accepted}
use Rattle.si_shard.proofs.journal_shards.JournalShard.add_changes.Goals as goal

pub changes_since-requires-clause-accepted : goal.changes_since-requires-clause-accepted
changes_since-requires-clause-accepted c = beginning_accepted c.args.journal.now c.args.self.now.position c.requires.accepted

pub changes_since-requires-clause-settled : goal.changes_since-requires-clause-settled
changes_since-requires-clause-settled c = c.requires.follows.whole c.if-self.false
