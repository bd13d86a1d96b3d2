use Rattle.std.proofs.Common.{◌≡◌, ◌++◌, drop, map}
use Rattle.si_model.specs.Operations.{key_of}
use Rattle.si_model.proofs.findings.add_keys.Given as goal

abbrev pub invariant-loop-op : goal.invariant-loop-op
invariant-loop-op l = l.keys.items ++ map key_of (drop l.op-index l.op-items) ≡ l.fn.keys.items ++ map key_of l.op-items
