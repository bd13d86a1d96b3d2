use Rattle.std.proofs.Common.{◌≡◌, take}
use Rattle.std.specs.List.{filter_map}
use Rattle.si_judge.specs.Indexes.{write_at}
use Rattle.si_judge.proofs.reads.writes_of.Given as goal

abbrev pub invariant-loop-placed : goal.invariant-loop-placed
invariant-loop-placed l = l.writes.items ≡ filter_map (write_at l.part) (take l.placed-index l.part.accesses)
