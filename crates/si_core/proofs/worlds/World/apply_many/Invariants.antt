use Rattle.si_core.specs.Machine.{AreApplied, TellsPosition}
use Rattle.si_core.proofs.worlds.World.apply_many.Given as goal

abbrev pub invariant-loop-applied : goal.invariant-loop-applied
invariant-loop-applied l = AreApplied l._applied l.fn.self l.shard l.self × TellsPosition l.self l.shard l.last
