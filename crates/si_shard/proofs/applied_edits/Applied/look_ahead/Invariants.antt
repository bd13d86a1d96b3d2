use Rattle.std.proofs.Common.{◌≡◌}
use Rattle.si_shard.proofs.applied_edits.Applied.look_ahead.Given as goal

abbrev pub invariant-loop-told : goal.invariant-loop-told
invariant-loop-told l = l.self ≡ record l.fn.self { ahead = l.self.ahead }
