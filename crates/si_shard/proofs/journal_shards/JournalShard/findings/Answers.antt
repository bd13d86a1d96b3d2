use Rattle.std.proofs.Common.{take}
use Rattle.si_shard.proofs.Beginnings.{beginning_accepted}
use Rattle.si_shard.proofs.journal_shards.JournalShard.findings.Goals as goal

pub findings-requires : goal.findings-requires
findings-requires c =
    let s = c.args.self.now in
    let f = c.requires in
    (s.id, take s.position f.0, beginning_accepted f.0 s.position f.1, f.2.whole c.if-self.false)

pub returns-clause-ok : goal.returns-clause-ok
returns-clause-ok c = λ J accepted follows.
    let s = c.args.self.now in
    c.in_ok-found.ensures s.id (take s.position J) (beginning_accepted J s.position accepted) (follows.whole c.if-self.false)
