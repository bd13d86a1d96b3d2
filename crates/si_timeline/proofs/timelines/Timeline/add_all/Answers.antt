use Rattle.std.proofs.Common.{◌∙◌, ◌++◌, ap}
use Rattle.si_timeline.proofs.Entries.{all_of}
use Rattle.si_timeline.proofs.timelines.Timeline.add_all.Goals as goal

pub returns : goal.returns
returns c = c.in_ok-add_between.ensures ∙ ap (λ l. c.args.out.now.items ++ l) (all_of c.self.inside.versions ∙ c.self.view_is)
