use Rattle.si_accept.proofs.SetUpFinds.{none_of_none}
use Rattle.si_accept.proofs.set_ups.SetUps.value.Goals as goal

pub returns-then-is_empty : goal.returns-then-is_empty
returns-then-is_empty c = rw (← c.self.view_is) (none_of_none c.args.key.now c.self.inside.values.entries (c.is_empty.ensures.0 c.if-is_empty.true))
