use Rattle.std.proofs.Common.{◌∙◌, ◌-◌, length, sym, ap, arith}
use Rattle.si_sorted.proofs.Search.{at_entry, beyond}
use Rattle.si_sorted.proofs.flat.place_of.Goals as goal

-- the last key is less
pub returns-in-Greater : goal.returns-in-Greater
returns-in-Greater g c =
    let last = c.index-entries-len.result in
    let i = length c.args.entries.now - 1 in
    let count = c.if-len-eq0.false in
    let above = ap (λ e. g.K.Ord.cmp c.args.key e.0) c.index-entries-len.is ∙ sym c.in-Greater.ensures in
    beyond g.met.K.Ord.total c.args.entries.now c.requires c.args.key i last (omega (arith, count)) (sym c.index-entries-len.is) above

-- the last key is the same
pub returns-in-Equal : goal.returns-in-Equal
returns-in-Equal g c =
    let last = c.index-entries-len.result in
    let i = length c.args.entries.now - 1 in
    let count = c.if-len-eq0.false in
    let same = ap (λ e. g.K.Ord.cmp c.args.key e.0) c.index-entries-len.is ∙ sym c.in-Equal.ensures in
    at_entry g.met.K.Ord.total c.args.entries.now c.requires c.args.key i last (omega (arith, count)) (sym c.index-entries-len.is) same
