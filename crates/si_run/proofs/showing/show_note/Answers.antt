use Rattle.si_run.specs.Telling.{Note}
use Rattle.si_run.proofs.Shown.{shows_one}
use Rattle.si_run.proofs.showing.show_note.Goals as goal

pub returns : goal.returns
returns g c =
    let seen = g.E.ByteSink.seen in
    shows_one (seen c.args.err.now) (seen c.note.new.err) (Note.Goes c.args.lines c.args.rate c.args.findings) c.note.ensures
