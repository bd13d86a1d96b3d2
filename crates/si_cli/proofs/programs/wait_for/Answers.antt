use Rattle.std.proofs.Common.{sym, subst}
use Rattle.si_text.specs.Devices.{lent}
use Rattle.si_run.specs.Telling.{Note, ShowsNotes}
use Rattle.si_run.proofs.Shown.{shows_one}
use Rattle.si_cli.proofs.programs.wait_for.Goals as goal

pub returns-then-shows : goal.returns-then-shows
returns-then-shows g c =
    let seen = g.E.ByteSink.seen in
    subst (λ b. ShowsNotes b (lent (seen c.args.err.now) (seen c.show_waiting.new.err))) (sym c.if-shows.true) (shows_one (seen c.args.err.now) (seen c.show_waiting.new.err) Note.Waits c.show_waiting.ensures)
