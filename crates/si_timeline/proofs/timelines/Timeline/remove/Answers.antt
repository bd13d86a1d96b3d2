use Rattle.std.proofs.Common.{subst, sym, ◌∙◌}
use Rattle.si_timeline.proofs.Entries.{found, removes, rising}
use Rattle.si_timeline.specs.Timelines.{Adds, Has}
use Rattle.si_timeline.proofs.timelines.Timeline.remove.Goals as goal

pub unreachable-requires : goal.unreachable-requires
unreachable-requires c =
    let has = subst (λ l. Has l c.args.commit) (sym c.self.view_is) c.requires in
    found c.self.inside.versions (c.args.commit, has.0) has.1 (sym c.remove.ensures.value ∙ c.in-None.is)

pub returns-clause-removed : goal.returns-clause-removed
returns-clause-removed c =
    let removed = removes c.args.commit c.in-Some.version c.self.inside.versions (sym c.remove.ensures.value ∙ c.in-Some.is) in
    subst (Adds c.args.commit c.in-Some.version c.remove.new.self) c.self.view_is
    (subst (λ l. Adds c.args.commit c.in-Some.version l c.self.inside.versions) (sym c.remove.ensures.entries) removed)

pub returns-clause-rising : goal.returns-clause-rising
returns-clause-rising c = rising c.remove.new.self c.remove.ensures.rising

pub returns-clause-gone : goal.returns-clause-gone
returns-clause-gone c = λ version there. found c.remove.new.self (c.args.commit, version) there c.remove.ensures.gone
