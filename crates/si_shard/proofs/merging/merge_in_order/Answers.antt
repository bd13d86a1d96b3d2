use Rattle.std.proofs.Common.{◌∙◌}
use Rattle.std.proofs.lemmas.List.Filters.{dedup_is}
use Rattle.si_model.proofs.InOrder.{dedup-in_order}
use Rattle.si_shard.proofs.merging.merge_in_order.Goals as goal

pub returns : goal.returns
returns g c =
    let sorted = c.sort_runs.new.items.items in
    dedup_is g.T.PartialEq.eq sorted c.dedup.new.self.items c.dedup.ensures.filtered
    ∙ dedup-in_order g.met.T.Ord.total g.met.T.Eq.laws g.met.T.Ord.matches_eq c.requires.exact c.args.items.now.items sorted c.sort_runs.ensures.permutation c.sort_runs.ensures.sorted
