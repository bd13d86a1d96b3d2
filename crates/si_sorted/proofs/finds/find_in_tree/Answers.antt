use Rattle.std.proofs.Common.{◌∙◌, ap}
use Rattle.std.specs.List.{find}
use Rattle.si_sorted.proofs.Finding.{all_between}
use Rattle.si_sorted.proofs.finds.find_in_tree.Goals as goal

pub returns : goal.returns
returns g c = c.find_between.ensures ∙ ap (find (λ e. g.T.ValueTest.passes c.args.test.now e.1)) (all_between g.K.Ord.cmp c.args.tree.now.entries)
