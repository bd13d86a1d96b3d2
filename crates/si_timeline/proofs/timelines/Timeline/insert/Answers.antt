use Rattle.std.proofs.Common.{subst, sym}
use Rattle.si_timeline.proofs.Entries.{adds, rising}
use Rattle.si_timeline.specs.Timelines.{Adds, Lacks}
use Rattle.si_timeline.proofs.timelines.Timeline.insert.Goals as goal

pub returns-in_err-insert-clause-rising : goal.returns-in_err-insert-clause-rising
returns-in_err-insert-clause-rising c = rising c.insert.new.self c.insert.ensures.rising

pub returns-clause-ok : goal.returns-clause-ok
returns-clause-ok c =
    let added = adds c.args.commit c.args.version c.self.inside.versions (subst (λ l. Lacks l c.args.commit) (sym c.self.view_is) c.requires) in
    subst (λ l. Adds c.args.commit c.args.version l c.insert.new.self) c.self.view_is
    (subst (Adds c.args.commit c.args.version c.self.inside.versions) (sym c.in_ok-insert.ensures.ok) added)

pub returns-clause-rising : goal.returns-clause-rising
returns-clause-rising c = rising c.insert.new.self c.insert.ensures.rising
