use Rattle.std.proofs.Common.{◌∙◌, ap, subst, None, Some}
use Rattle.si_timeline.specs.Timelines.{IsNearestAfter}
use Rattle.si_judge.proofs.Neighbours.{next_version}
use Rattle.si_judge.proofs.indexes.Indexes.next_after.Goals as goal

pub returns-in-Some : goal.returns-in-Some
returns-in-Some c = λ M is.
    let near = subst (λ s. IsNearestAfter c.args.self.now.timeline s (Some (c.in-Some.commit, c.in-Some.version))) c.stamp_of.ensures c.in-Some.ensures in
    ap Some c.installer.ensures ∙ next_version c.args.self.now is c.args.after (Some (c.in-Some.commit, c.in-Some.version)) near

pub returns-in-None : goal.returns-in-None
returns-in-None c = λ M is.
    let near = subst (λ s. IsNearestAfter c.args.self.now.timeline s None) c.stamp_of.ensures c.in-None.ensures in
    next_version c.args.self.now is c.args.after None near
