use Rattle.si_run.specs.Telling.{fault_line}
use Rattle.si_run.proofs.Shown.{behind}
use Rattle.si_run.proofs.telling.tell_behind.Goals as goal

pub returns : goal.returns
returns g c =
    let seen = g.E.ByteSink.seen in
    behind c.args.shows (seen c.args.err.now) (seen c.clear.new.err) (seen c.tell_fault.new.err) (fault_line c.args.fault) c.clear.ensures c.tell_fault.ensures
