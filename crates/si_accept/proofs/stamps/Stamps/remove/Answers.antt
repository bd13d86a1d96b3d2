use Rattle.std.proofs.Common.{None}
use Rattle.si_accept.proofs.Holders.{set_at}
use Rattle.si_accept.proofs.stamps.Stamps.remove.Goals as goal

pub returns : goal.returns
returns c = rw (← c.self.view_is) (set_at c.self.inside.holders c.remove-was_there.new.self c.args.stamp c.args.id None c.remove-was_there.ensures.sets)
