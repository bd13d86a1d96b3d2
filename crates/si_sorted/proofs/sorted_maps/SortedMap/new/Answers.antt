use Rattle.si_sorted.proofs.Rising.{none_rises}
use Rattle.si_sorted.proofs.sorted_maps.SortedMap.new.Goals as goal

pub invariant_of-result : goal.invariant_of-result
invariant_of-result g c = rw c.new.ensures.items (none_rises g.K.Ord.cmp)
