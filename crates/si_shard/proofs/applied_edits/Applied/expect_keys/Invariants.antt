use Rattle.std.proofs.Common.{◌≡◌}
use Rattle.si_shard.proofs.applied_edits.Applied.expect_keys.Given as goal

abbrev pub invariant-loop-op : goal.invariant-loop-op
invariant-loop-op l = l.self ≡ record l.fn.self { ahead = l.self.ahead }
