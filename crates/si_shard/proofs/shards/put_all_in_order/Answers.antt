use Rattle.std.proofs.Common.{◌∙◌, ap}
use Rattle.si_model.specs.Order.{finding_cmp, in_order}
use Rattle.si_shard.proofs.shards.put_all_in_order.Goals as goal

pub returns : goal.returns
returns c = λ shards P some history all.
    c.merge_in_order.ensures ∙ ap (in_order finding_cmp) all ∙ c.findings_are_of_shards.ensures shards P some history
