use Rattle.si_core.proofs.Opening.{AreFresh}
use Rattle.si_core.proofs.worlds.World.new.Given as goal

abbrev pub invariant-loop-shard : goal.invariant-loop-shard
invariant-loop-shard l = AreFresh l.shards l.shard l.all.items
