use Rattle.std.proofs.Common.{◌∙◌, ◌<◌, length, sym, ap, arith, is_gt}
use Rattle.si_sorted.proofs.Nearest.{first_from, none_from}
use Rattle.si_sorted.proofs.flat.entry_from.Goals as goal

pub returns-then-place-entries : goal.returns-then-place-entries
returns-then-place-entries g c = none_from g.met.K.Ord.total c.args.entries.now c.requires c.args.key c.count_below-place.result (omega (arith, c.if-place-entries.true)) c.count_below-place.ensures.above

pub returns : goal.returns
returns g c =
    let entry = c.index-entries-place.result in
    let i = c.count_below-place.result in
    let inside : i < length c.args.entries.now = omega (arith, c.if-place-entries.false, c.count_below-place.ensures.bound) in
    let here = sym c.index-entries-place.is in
    let not_greater = ap (λ e. is_gt (g.K.Ord.cmp c.args.key e.0)) (sym here) ∙ c.count_below-place.ensures.none i entry (omega arith) inside in
    first_from g.met.K.Ord.total c.args.entries.now c.requires c.args.key i entry inside here not_greater c.count_below-place.ensures.above
