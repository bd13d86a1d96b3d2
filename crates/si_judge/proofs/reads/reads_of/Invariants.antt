use Rattle.std.proofs.Common.{◌≡◌, take}
use Rattle.std.specs.List.{filter_map}
use Rattle.si_model.specs.Versions.{last_write}
use Rattle.si_judge.specs.Indexes.{read_at}
use Rattle.si_judge.proofs.reads.reads_of.Given as goal

abbrev pub invariant-loop-placed : goal.invariant-loop-placed
invariant-loop-placed l = (l.own ≡ last_write (take l.placed-index l.part.accesses)) × (l.reads.items ≡ filter_map (read_at l.part) (take l.placed-index l.part.accesses))
