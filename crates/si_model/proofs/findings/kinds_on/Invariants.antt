use Rattle.std.proofs.Common.{◌≡◌, ◌++◌, drop}
use Rattle.std.specs.List.{flat_map}
use Rattle.si_model.specs.Findings.{cases, kinds_of}
use Rattle.si_model.proofs.findings.kinds_on.Given as goal

abbrev pub invariant-loop-part : goal.invariant-loop-part
invariant-loop-part l = l.kinds.items ++ flat_map (kinds_of cases l.on_key) (drop l.part-index l.on_key.parts) ≡ flat_map (kinds_of cases l.on_key) l.on_key.parts
