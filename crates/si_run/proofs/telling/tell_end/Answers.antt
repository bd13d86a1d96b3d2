use Rattle.si_run.proofs.Shown.{cleared_end}
use Rattle.si_run.proofs.telling.tell_end.Goals as goal

pub returns-in-Ok : goal.returns-in-Ok
returns-in-Ok g c =
    let seen = g.E.ByteSink.seen in
    rw c.in-Ok.is (cleared_end c.args.shows _ (seen c.args.err.now) (seen c.clear.new.err) c.clear.ensures)
