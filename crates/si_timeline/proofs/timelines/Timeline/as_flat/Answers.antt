use Rattle.std.proofs.Common.{subst}
use Rattle.si_timeline.specs.Timelines.{IsRising}
use Rattle.si_timeline.proofs.Entries.{rising}
use Rattle.si_timeline.proofs.timelines.Timeline.as_flat.Goals as goal

pub returns-clause-rising : goal.returns-clause-rising
returns-clause-rising c = subst IsRising c.self.view_is (rising c.self.inside.versions c.len-rising.ensures.rising)
