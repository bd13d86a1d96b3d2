use Rattle.std.proofs.Common.{take}
use Rattle.std.specs.Ordering.{eq_by_cmp}
use Rattle.si_judge.specs.Indexes.{others_among}
use Rattle.si_judge.specs.Maps.{AreTakenOut}
use Rattle.si_judge.specs.Values.{at_value, value_cmp}
use Rattle.si_judge.proofs.maps.remove_writes.Given as goal

abbrev pub invariant-loop-write : goal.invariant-loop-write
invariant-loop-write l = AreTakenOut (eq_by_cmp value_cmp) (at_value l.initial.map) (others_among (take l.write-index l.writes)) (at_value l.map)
