use Rattle.std.proofs.Common.{subst}
use Rattle.si_timeline.specs.Timelines.{IsNearestAfter, IsRising}
use Rattle.si_timeline.proofs.Entries.{rising}
use Rattle.si_timeline.proofs.Nearest.{nearest_after}
use Rattle.si_timeline.proofs.timelines.Timeline.after.Goals as goal

pub returns-clause-nearest : goal.returns-clause-nearest
returns-clause-nearest c = subst (λ l. IsNearestAfter l c.args.stamp c.above.result) c.self.view_is (nearest_after c.self.inside.versions c.args.stamp c.above.result c.above.ensures.nearest)

pub returns-clause-rising : goal.returns-clause-rising
returns-clause-rising c = subst IsRising c.self.view_is (rising c.self.inside.versions c.above.ensures.rising)
