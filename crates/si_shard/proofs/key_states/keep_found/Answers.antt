use Rattle.std.proofs.Common.{rules}
use Rattle.si_shard.proofs.OnKeys.{found_stays}
use Rattle.si_shard.proofs.key_states.keep_found.Goals as goal

pub returns-then-left : goal.returns-then-left
returns-then-left c = found_stays c.args.key.now c.args.found.now c.args.left.had_findings c.args.left.has_findings c.requires (search rules)
