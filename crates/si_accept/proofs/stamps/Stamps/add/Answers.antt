use Rattle.std.proofs.Common.{Some}
use Rattle.si_accept.proofs.Holders.{set_at}
use Rattle.si_accept.proofs.stamps.Stamps.add.Goals as goal

pub returns-clause-ok : goal.returns-clause-ok
returns-clause-ok c = rw (← c.self.view_is) (set_at c.self.inside.holders c.insert.new.self c.args.stamp c.args.id (Some tt) c.in_ok-insert.ensures.sets)
