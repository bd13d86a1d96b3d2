use Rattle.std.proofs.Common.{take}
use Rattle.std.specs.List.{filter_map}
use Rattle.std.specs.Ordering.{eq_by_cmp}
use Rattle.si_judge.specs.Indexes.{others_among, write_at}
use Rattle.si_judge.specs.Maps.{AreInserted}
use Rattle.si_judge.specs.Values.{at_value, value_cmp}
use Rattle.si_judge.proofs.maps.insert_writes.Given as goal

abbrev pub invariant-loop-placed : goal.invariant-loop-placed
invariant-loop-placed l = AreInserted (eq_by_cmp value_cmp) (at_value l.initial.map) (others_among (filter_map (write_at l.part) (take l.placed-index l.part.accesses))) (at_value l.map)
