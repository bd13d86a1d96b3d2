use Rattle.std.proofs.Common.{refl}
use Rattle.si_shard.proofs.OnKeys.{told_before}
use Rattle.si_shard.proofs.key_states.change_of.Goals as goal

pub returns-clause-had : goal.returns-clause-had
returns-clause-had c = λ Q shows.
    told_before c.args.kept.now.key c.args.kept.now Q c.has_findings-had_findings.result c.left_on.result.had_findings refl shows c.has_findings-had_findings.ensures.found c.left_on.ensures.had
