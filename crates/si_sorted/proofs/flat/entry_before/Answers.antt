use Rattle.std.proofs.Common.{◌≡◌, ◌∙◌, ◌-◌, suc, sym, ap, subst, arith}
use Rattle.si_sorted.specs.Places.{IsAboveNoneFrom}
use Rattle.si_sorted.proofs.Nearest.{last_below, none_below}
use Rattle.si_sorted.proofs.flat.entry_before.Goals as goal

pub returns-then-count-eq0 : goal.returns-then-count-eq0
returns-then-count-eq0 g c = none_below g.met.K.Ord.total c.args.entries.now c.requires c.args.key c.count_below-count.result c.if-count-eq0.true c.count_below-count.ensures.none

pub returns : goal.returns
returns g c =
    let entry = c.index-entries-count.result in
    let some = c.if-count-eq0.false in
    let i = c.count_below-count.result - 1 in
    let next : suc i ≡ c.count_below-count.result = omega (arith, some) in
    let here = sym c.index-entries-count.is in
    let above = ap (λ e. g.K.Ord.cmp c.args.key e.0) (sym here) ∙ c.count_below-count.ensures.above i entry (omega (arith, some)) in
    last_below g.met.K.Ord.total c.args.entries.now c.requires c.args.key i entry (omega (arith, some, c.count_below-count.ensures.bound)) here above
    (subst (IsAboveNoneFrom g.K.Ord.cmp c.args.entries.now c.args.key) (sym next) c.count_below-count.ensures.none)
