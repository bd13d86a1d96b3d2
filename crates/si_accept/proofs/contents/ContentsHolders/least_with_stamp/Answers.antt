use Rattle.si_model.specs.Edits.{has_stamp}
use Rattle.si_accept.specs.Indexes.{has_any}
use Rattle.si_accept.proofs.IndexFinds.{least_is_one, least_from, stamps_exact}
use Rattle.si_accept.proofs.contents.ContentsHolders.least_with_stamp.Goals as goal

pub returns : goal.returns
returns c =
    let txns = c.self.inside.arrivals.txns in
    rw (← c.self.view_is) (least_is_one (has_stamp c.args.stamp) txns _ _ (least_from (has_any c.self.inside.index c.args.stamp) (has_stamp c.args.stamp) txns _ (stamps_exact txns c.self.inside.index c.self.invariant c.args.stamp) c.least_with_stamp.ensures) (c.least_is_least.ensures (has_stamp c.args.stamp) txns))
