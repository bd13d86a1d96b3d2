use Rattle.std.proofs.Common.{◌∙◌, sym, ap, arith, is_lt}
use Rattle.si_sorted.proofs.Search.{above_before_none_less}
use Rattle.si_sorted.proofs.flat.near_end.Goals as goal

-- the key isn't below the one that it is compared with
pub returns-then-not-is_lt-clause-above : goal.returns-then-not-is_lt-clause-above
returns-then-not-is_lt-clause-above g c =
    let at_low = c.index-entries-low.result in
    let below_last = c.loop-low.invariant in
    let some = c.loop-low-test.true in
    let order = ap (λ e. is_lt (g.K.Ord.cmp c.args.key e.0)) c.index-entries-low.is ∙ ap is_lt (sym c.cmp.ensures) ∙ sym c.is_lt.ensures ∙ c.if-not-is_lt.true in
    above_before_none_less g.met.K.Ord.total c.args.entries.now c.requires c.args.key c.loop-low.low at_low (omega (arith, below_last, some)) (sym c.index-entries-low.is) order
