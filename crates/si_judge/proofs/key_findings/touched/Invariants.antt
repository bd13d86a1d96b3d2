use Rattle.std.proofs.Common.{◌≡◌, Some, None, take}
use Rattle.std.specs.List.{filter_map, flat_map}
use Rattle.si_judge.specs.Indexes.{kept_reads_in, write_at}
use Rattle.si_judge.proofs.key_findings.touched.Given as goal

abbrev pub invariant-loop-placed : goal.invariant-loop-placed
invariant-loop-placed l = l.reads.items ≡ flat_map (λ w. kept_reads_in l.indexes (Some w.0) None) (filter_map (write_at l.part) (take l.placed-index l.part.accesses))
