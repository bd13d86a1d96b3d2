use Rattle.std.proofs.Common.{◌-◌}
use Rattle.si_timeline.proofs.Cuts.{IsCut}
use Rattle.si_timeline.proofs.risings.count_less.Given as goal

-- what is left to look at stands between two places: those before have lesser values, those from the other on none
abbrev pub invariant-loop-low : goal.invariant-loop-low
invariant-loop-low l = IsCut l.versions l.value l.low l.high

abbrev pub decreases-loop-low : goal.decreases-loop-low
decreases-loop-low l = l.high - l.low
