use Rattle.std.proofs.Common.{◌∙◌}
use Rattle.si_shard.proofs.ShardFindings.{on_shard, shard_findings, shard_on}
use Rattle.si_shard.proofs.applied_edits.Applied.findings.Goals as goal

pub returns : goal.returns
returns c = λ id edits accepted sound.
    c.in_ok-found.ensures.found (on_shard id edits) (shard_on id edits c.args.self.now sound.applied) ∙ shard_findings id edits c.args.self.now accepted sound c.in_ok-found.ensures.ordered
