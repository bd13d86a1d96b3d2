use Rattle.std.proofs.Common.{◌≤◌, ◌-◌, length}
use Rattle.si_sorted.proofs.flat.near_end.Given as goal

-- below the last place, if there are places
abbrev pub invariant-loop-low : goal.invariant-loop-low
invariant-loop-low g l = l.low ≤ length l.entries - 1

abbrev pub decreases-loop-low : goal.decreases-loop-low
decreases-loop-low g l = l.low
