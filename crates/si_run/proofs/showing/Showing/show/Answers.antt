use Rattle.std.proofs.Common.{rules, ◌≡◌, true, sym, subst}
use Rattle.si_text.specs.Devices.{lent}
use Rattle.si_run.specs.Telling.{ShowsNotes}
use Rattle.si_run.proofs.showing.Showing.show.Goals as goal

pub returns-clause-shown : goal.returns-clause-shown
returns-clause-shown g c =
    let seen = g.E.ByteSink.seen in
    let asked : c.args.self.now.shows ≡ true = search rules in
    subst (λ b. ShowsNotes b (lent (seen c.args.err.now) (seen c.show_note.new.err))) (sym asked) c.show_note.ensures
