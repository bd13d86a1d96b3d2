use Rattle.std.proofs.Common.{◌∙◌, ap}
use Rattle.si_model.specs.Order.{finding_cmp, in_order}
use Rattle.si_shard.proofs.ShardsTogether.{changes_of_shards}
use Rattle.si_shard.proofs.shards.put_changes_in_order.Goals as goal

pub returns : goal.returns
returns c = λ shards before now some history all. c.merge_in_order.ensures ∙ ap (in_order finding_cmp) all ∙ changes_of_shards shards before now some history
