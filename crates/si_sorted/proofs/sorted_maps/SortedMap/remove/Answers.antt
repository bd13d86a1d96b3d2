use Rattle.std.proofs.Common.{◌∙◌, None, ap, cond, is_eq}
use Rattle.si_sorted.specs.Entries.{value_at}
use Rattle.si_sorted.proofs.Lookups.{left_after}
use Rattle.si_sorted.proofs.sorted_maps.SortedMap.remove.Goals as goal

pub returns-clause-sets : goal.returns-clause-sets
returns-clause-sets g c q =
    let cmp = g.K.Ord.cmp in
    ap (λ es. value_at cmp es q) c.remove.ensures.entries ∙ left_after g.met.K.Ord.total c.args.key q _ c.self.invariant
    ∙ ap (λ es. cond (is_eq (cmp c.args.key q)) None (value_at cmp es q)) c.self.view_is
