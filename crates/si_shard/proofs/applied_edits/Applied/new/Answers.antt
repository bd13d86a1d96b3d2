use Rattle.std.proofs.Common.{None, refl}
use Rattle.si_shard.proofs.KeyChanges.{none_applied}
use Rattle.si_shard.proofs.applied_edits.Applied.new.Goals as goal

pub returns : goal.returns
returns c = λ id. none_applied id (record { alloc = c.args.alloc; keys = c.new.result; ahead = c.new-2.result; noted = None }) c.new.ensures.on c.new.ensures.none refl
