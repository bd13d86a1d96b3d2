use Rattle.std.proofs.Common.{[], take}
use Rattle.std.specs.List.{filter_map, flat_map}
use Rattle.si_judge.specs.Indexes.{write_at}
use Rattle.si_judge.specs.Marks.{AreGathered}
use Rattle.si_judge.proofs.Passes.{readers}
use Rattle.si_judge.proofs.key_findings.touched_or_marked.Given as goal

abbrev pub invariant-loop-placed : goal.invariant-loop-placed
invariant-loop-placed l = AreGathered (flat_map (readers l.indexes) (filter_map (write_at l.part) (take l.placed-index l.part.accesses))) l.initial.marks l.marks [] l.reads.items
