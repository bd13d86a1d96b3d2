use Rattle.std.proofs.Common.{◌∙◌, Some, ap, cond, is_eq}
use Rattle.si_sorted.specs.Entries.{value_at}
use Rattle.si_sorted.proofs.Lookups.{found_after}
use Rattle.si_sorted.proofs.sorted_maps.SortedMap.insert.Goals as goal

pub returns-clause-sets : goal.returns-clause-sets
returns-clause-sets g c q =
    let cmp = g.K.Ord.cmp in
    ap (λ es. value_at cmp es q) c.in_ok-insert.ensures.ok ∙ found_after g.met.K.Ord.total c.args.key c.args.value q _
    ∙ ap (λ es. cond (is_eq (cmp c.args.key q)) (Some c.args.value) (value_at cmp es q)) c.self.view_is
