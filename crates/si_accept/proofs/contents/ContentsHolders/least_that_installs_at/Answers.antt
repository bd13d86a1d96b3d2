use Rattle.si_model.specs.Edits.{installs_at}
use Rattle.si_accept.specs.Stamps.{has}
use Rattle.si_accept.proofs.IndexFinds.{least_is_one, least_from, installs_exact}
use Rattle.si_accept.proofs.contents.ContentsHolders.least_that_installs_at.Goals as goal

pub returns : goal.returns
returns c =
    let txns = c.self.inside.arrivals.txns in
    rw (← c.self.view_is) (least_is_one (installs_at c.args.stamp) txns _ _ (least_from (has c.self.inside.index.installs c.args.stamp) (installs_at c.args.stamp) txns _ (installs_exact txns c.self.inside.index c.self.invariant c.args.stamp) c.least_that_installs_at.ensures) (c.least_is_least.ensures (installs_at c.args.stamp) txns))
