use Rattle.std.proofs.Common.{arith}
use Rattle.si_shard.proofs.journal_shards.JournalShard.new.Goals as goal

pub returns-clause-follows : goal.returns-clause-follows
returns-clause-follows c = λ J. record {
  shard = c.requires.within;
  within = omega arith;
  whole = λ e. c.new.ensures (record { shard = c.args.shard; shards = c.args.shards });
}
