use Rattle.std.proofs.Common.{◌∙◌, sym, ap, arith}
use Rattle.si_sorted.proofs.Nearest.{first_above, none_above}
use Rattle.si_sorted.proofs.flat.entry_after.Goals as goal

pub returns-then-count-entries : goal.returns-then-count-entries
returns-then-count-entries g c =
    let entry = c.index-entries-count.result in
    let i = c.count_up_to-count.result in
    let here = sym c.index-entries-count.is in
    let below = ap (λ e. g.K.Ord.cmp c.args.key e.0) (sym here) ∙ c.count_up_to-count.ensures.below i entry (omega arith) c.if-count-entries.true in
    first_above g.met.K.Ord.total c.args.entries.now c.requires c.args.key i entry c.if-count-entries.true here below c.count_up_to-count.ensures.none

pub returns : goal.returns
returns g c = none_above g.met.K.Ord.total c.args.entries.now c.requires c.args.key c.count_up_to-count.result c.if-count-entries.false c.count_up_to-count.ensures.none
