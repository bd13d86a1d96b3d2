use Rattle.std.proofs.Common.{rules}
use Rattle.std.proofs.lemmas.Fn.{filter_same}
use Rattle.si_sorted.proofs.finds.retain_in.Goals as goal

pub returns : goal.returns
returns g c = filter_same _ (λ e. g.T.ValueTest.passes c.args.test.now e.1) _ (λ x b f' k. search rules) _ _ c.retain.ensures.filtered
