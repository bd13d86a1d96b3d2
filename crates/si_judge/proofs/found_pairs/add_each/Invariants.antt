use Rattle.std.proofs.Common.{◌≡◌, ◌++◌, map, take}
use Rattle.std.specs.Map.{values_of}
use Rattle.si_model.specs.Findings.{finding_at}
use Rattle.si_judge.specs.Found.{overlap_in, told_of}
use Rattle.si_judge.proofs.found_pairs.add_each.Given as goal

abbrev pub invariant-loop-entry : goal.invariant-loop-entry
invariant-loop-entry l = l.found.items ≡ l.initial.found.items ++ map (finding_at l.key) (values_of (told_of overlap_in (take l.entry-index l.entries)))
