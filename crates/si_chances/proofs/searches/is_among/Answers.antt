use Rattle.std.proofs.Common.{◌∙◌}
use Rattle.si_chances.proofs.InOrder.{search_is_any}
use Rattle.si_chances.proofs.searches.is_among.Goals as goal

pub returns : goal.returns
returns c = c.is_ok.ensures.value ∙ search_is_any c.args.sorted.now c.args.n c.binary_search.result c.binary_search.ensures.position c.requires
