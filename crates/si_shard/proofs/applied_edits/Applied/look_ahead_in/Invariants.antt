use Rattle.std.proofs.Common.{◌≡◌}
use Rattle.si_shard.proofs.applied_edits.Applied.look_ahead_in.Given as goal

abbrev pub invariant-loop-there : goal.invariant-loop-there
invariant-loop-there l = l.self ≡ record l.fn.self { ahead = l.self.ahead }
