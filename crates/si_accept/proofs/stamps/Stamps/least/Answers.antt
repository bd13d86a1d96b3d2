use Rattle.si_accept.proofs.Holders.{first_found, later_found, none_found}
use Rattle.si_accept.proofs.stamps.Stamps.least.Goals as goal

pub returns-then-found-stamp : goal.returns-then-found-stamp
returns-then-found-stamp c = rw (← c.self.view_is) (first_found c.self.inside.holders c.args.stamp _ c.in-Some.ensures.nearest c.if-found-stamp.true)

pub returns-else-found-stamp : goal.returns-else-found-stamp
returns-else-found-stamp c = rw (← c.self.view_is) (later_found c.self.inside.holders c.args.stamp _ c.in-Some.ensures.nearest c.if-found-stamp.false)

pub returns-in-None : goal.returns-in-None
returns-in-None c = rw (← c.self.view_is) (none_found c.self.inside.holders c.args.stamp c.in-None.ensures.nearest)
