use Rattle.std.proofs.Common.{rules}
use Rattle.std.proofs.lemmas.Map.Made.{filter_same_pairs}
use Rattle.si_sorted.proofs.finds.retain_in_tree.Goals as goal

pub returns : goal.returns
returns g c = filter_same_pairs _ (λ e. g.T.ValueTest.passes c.args.test.now e.1) _ (λ k v b w f' t. search rules) _ _ c.retain.ensures.filtered
