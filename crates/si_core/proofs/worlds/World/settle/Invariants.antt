use Rattle.std.proofs.Common.{length}
use Rattle.si_core.specs.Machine.{LeavesJournal}
use Rattle.si_core.proofs.Applications.{SettlesWith}
use Rattle.si_core.proofs.worlds.World.settle.Given as goal

abbrev pub invariant-loop-shard : goal.invariant-loop-shard
invariant-loop-shard l = SettlesWith (length l.initial.self.shards) l.shard l.initial.self l.self × LeavesJournal l.initial.self l.self
