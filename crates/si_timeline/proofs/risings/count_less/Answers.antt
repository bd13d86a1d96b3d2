use Rattle.std.proofs.Common.{◌-◌, arith}
use Rattle.si_timeline.proofs.Cuts.{at_least_from, cut_above, cut_below, less_from}
use Rattle.si_timeline.proofs.risings.count_less.Goals as goal

pub loop-low-preserved-then-lt : goal.loop-low-preserved-then-lt
loop-low-preserved-then-lt c =
    let some = c.loop-low-test.true in
    cut_above c.args.versions.now c.requires.rising c.requires.values c.args.value c.loop-low.low c.loop-low.high (c.loop-low.high - 1 - c.min.result) _ c.loop-low.invariant (omega (arith, some))
    (less_from _ _ c.lt.result c.lt.ensures c.if-lt.true)

pub loop-low-preserved : goal.loop-low-preserved
loop-low-preserved c =
    let some = c.loop-low-test.true in
    let step = c.min.ensures in
    cut_below c.args.versions.now c.requires.rising c.requires.values c.args.value c.loop-low.low c.loop-low.high (c.loop-low.high - 1 - c.min.result) _ c.loop-low.invariant (omega (arith, some, step)) (omega (arith, some))
    (at_least_from _ _ c.lt.result c.lt.ensures c.if-lt.false)
