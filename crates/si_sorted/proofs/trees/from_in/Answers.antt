use Rattle.si_sorted.proofs.Ends.{first_from_in_tree, none_from_in_tree}
use Rattle.si_sorted.proofs.trees.from_in.Goals as goal

pub returns-in-Some : goal.returns-in-Some
returns-in-Some g c = first_from_in_tree g.met.K.Ord.total c.args.tree.now c.range.ensures.ordered c.args.key c.range.result _ _ (c.range.ensures.between tt) (c.range.ensures.in_range tt) c.in-Some.ensures.steps

pub returns-in-None : goal.returns-in-None
returns-in-None g c = none_from_in_tree g.met.K.Ord.total c.args.tree.now c.range.ensures.ordered c.args.key c.range.result (c.range.ensures.in_range tt) c.in-None.ensures.steps.0
