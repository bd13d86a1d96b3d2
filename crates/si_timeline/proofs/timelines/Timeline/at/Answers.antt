use Rattle.std.proofs.Common.{◌∙◌, ap, subst}
use Rattle.si_timeline.specs.Timelines.{IsRising}
use Rattle.std.specs.BTreeMap.{is_at}
use Rattle.std.specs.Map.{lookup}
use Rattle.si_timeline.proofs.Entries.{rising, stamp_cmp, under}
use Rattle.si_timeline.proofs.timelines.Timeline.at.Goals as goal

pub returns : goal.returns
returns c = under c.args.commit c.args.self.now c.get.result (subst IsRising c.self.view_is (rising c.self.inside.versions c.get.ensures.rising)) (c.get.ensures.value ∙ ap (lookup (is_at (stamp_cmp c.args.commit))) c.self.view_is)
