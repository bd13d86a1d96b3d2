use Rattle.std.proofs.Common.{◌∙◌, ◌-◌, length, sym, ap, arith, is_gt}
use Rattle.si_sorted.proofs.Moves.{moved_at_gap}
use Rattle.si_sorted.proofs.Search.{beyond, greater_from}
use Rattle.si_sorted.proofs.flat.is_past.Goals as goal

pub returns-clause-past : goal.returns-clause-past
returns-clause-past g c = λ told.
    let last = c.index-entries-len.result in
    let i = length c.args.entries.now - 1 in
    let count = c.if-len-eq0.false in
    let above = ap (λ e. g.K.Ord.cmp c.args.key e.0) c.index-entries-len.is ∙ greater_from _ (ap is_gt (sym c.cmp.ensures) ∙ sym c.is_gt.ensures ∙ told) in
    beyond g.met.K.Ord.total c.args.entries.now c.requires c.args.key i last (omega (arith, count)) (sym c.index-entries-len.is) above

pub returns-clause-none : goal.returns-clause-none
returns-clause-none g c = λ told.
    sym (moved_at_gap g.K.Ord.cmp c.args.key c.args.entries.now (length c.args.entries.now) (returns-clause-past g c told)) ∙ omega arith
