use Rattle.std.proofs.Common.{sym}
use Rattle.si_timeline.proofs.Cuts.{less_from}
use Rattle.si_judge.proofs.RisingValues.{fits_behind}
use Rattle.si_judge.proofs.versions.Versions.is_above_last.Goals as goal

pub returns-then-lt : goal.returns-then-lt
returns-then-lt c = rw (← c.self.view_is)
    (λ told rise. fits_behind c.self.inside.timeline c.args.commit c.args.value (c.in-Some.last, c.in-Some.version) c.len-rising.ensures.rising (sym c.in-Some.ensures)
    (less_from _ _ c.lt.result c.lt.ensures c.if-lt.true) (less_from _ _ c.lt-then-lt.result c.lt-then-lt.ensures told) rise)
