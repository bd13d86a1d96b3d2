use Rattle.std.proofs.Common.{subst}
use Rattle.si_timeline.specs.Timelines.{IsNearestBefore, IsRising}
use Rattle.si_timeline.proofs.Entries.{rising}
use Rattle.si_timeline.proofs.Nearest.{nearest_before}
use Rattle.si_timeline.proofs.timelines.Timeline.before.Goals as goal

pub returns-clause-nearest : goal.returns-clause-nearest
returns-clause-nearest c = subst (λ l. IsNearestBefore l c.args.stamp c.below.result) c.self.view_is (nearest_before c.self.inside.versions c.args.stamp c.below.result c.below.ensures.nearest)

pub returns-clause-rising : goal.returns-clause-rising
returns-clause-rising c = subst IsRising c.self.view_is (rising c.self.inside.versions c.below.ensures.rising)
