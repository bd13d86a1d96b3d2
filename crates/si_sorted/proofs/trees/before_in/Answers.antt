use Rattle.si_sorted.proofs.Ends.{last_in_tree, none_below_in_tree}
use Rattle.si_sorted.proofs.trees.before_in.Goals as goal

pub returns-in-Some : goal.returns-in-Some
returns-in-Some g c = last_in_tree g.met.K.Ord.total c.args.tree.now c.range.ensures.ordered c.args.key c.range.result _ _ (c.range.ensures.between tt) (c.range.ensures.in_range tt) c.in-Some.ensures.steps

pub returns-in-None : goal.returns-in-None
returns-in-None g c = none_below_in_tree g.met.K.Ord.total c.args.tree.now c.range.ensures.ordered c.args.key c.range.result (c.range.ensures.in_range tt) c.in-None.ensures.steps.0
