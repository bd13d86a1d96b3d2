use Rattle.std.proofs.Common.{◌∙◌, ◌++◌, ap}
use Rattle.si_judge.specs.Marks.{returned_cmp}
use Rattle.si_judge.proofs.FoundLists.{all_between}
use Rattle.si_judge.proofs.marks.Marks.add_to.Goals as goal

pub returns : goal.returns
returns c = c.in_ok-add_between.ensures ∙ ap (λ l. c.args.out.now.items ++ l) (all_between returned_cmp c.self.inside.all ∙ c.self.view_is)
