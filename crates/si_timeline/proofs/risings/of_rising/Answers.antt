use Rattle.std.proofs.Common.{◌<◌, length, arith}
use Rattle.si_timeline.proofs.Cuts.{differ_from, other_there}
use Rattle.si_timeline.proofs.risings.of_rising.Goals as goal

pub returns-else-eq : goal.returns-else-eq
returns-else-eq c =
    let bound = c.count_less-place.ensures.bound in
    let inside : c.count_less-place.result < length c.args.versions.now = omega (arith, bound, c.if-place-versions.false) in
    other_there c.args.versions.now c.requires.rising c.requires.values c.args.value c.count_less-place.result _ inside (differ_from _ _ c.eq.result c.eq.ensures c.if-eq.false)
    record { order = omega arith; within = bound; less = c.count_less-place.ensures.less; rest = c.count_less-place.ensures.rest }
