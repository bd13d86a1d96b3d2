use Rattle.std.proofs.Common.{◌≡◌, ◌++◌, map, take}
use Rattle.si_model.specs.Findings.{finding_at}
use Rattle.si_shard.proofs.key_notes.add_findings.Given as goal

abbrev pub invariant-loop-kind : goal.invariant-loop-kind
invariant-loop-kind l = l.found.items ≡ l.fn.found.items ++ map (finding_at l.key) (take l.kind-index l.kinds)
