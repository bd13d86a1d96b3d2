use Rattle.std.proofs.Common.{◌≡◌, ◌++◌, drop, map}
use Rattle.si_model.specs.Findings.{finding_at}
use Rattle.si_model.proofs.findings.add_found_at.Given as goal

abbrev pub invariant-loop-kind : goal.invariant-loop-kind
invariant-loop-kind l = l.found.items ++ map (finding_at l.key) (drop l.kind-index l.kind-items) ≡ l.fn.found.items ++ map (finding_at l.key) l.kind-items
