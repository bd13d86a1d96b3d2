use Rattle.si_timeline.proofs.Cuts.{less_from}
use Rattle.si_judge.proofs.RisingValues.{above_former, above_none}
use Rattle.si_judge.proofs.versions.Versions.is_above_former.Goals as goal

pub returns-in-Some : goal.returns-in-Some
returns-in-Some c = rw (← c.self.view_is)
    (λ told rise. above_former c.self.inside.timeline c.before-2.ensures.rising rise c.args.commit c.args.value (c.in-Some.field-0-0, c.in-Some.former) c.in-Some.ensures.nearest (less_from _ _ c.lt.result c.lt.ensures told))

pub returns-in-None : goal.returns-in-None
returns-in-None c = rw (← c.self.view_is) (λ told rise. above_none c.self.inside.timeline c.args.commit c.args.value c.in-None.ensures.nearest)
