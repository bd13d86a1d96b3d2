use Rattle.std.proofs.Common.{rules}
use Rattle.si_shard.proofs.OnKeys.{none_kept}
use Rattle.si_shard.proofs.key_states.KeyStates.new.Goals as goal

pub returns-clause-on : goal.returns-clause-on
returns-clause-on c = λ x. none_kept (record { alloc = c.args.alloc; states = c.with_hasher.result; found = c.new.result; marked = c.new-2.result; notes = c.new-3.result }) x (search rules) (search rules)
