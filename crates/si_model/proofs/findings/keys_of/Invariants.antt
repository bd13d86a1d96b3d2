use Rattle.std.proofs.Common.{◌≡◌, ◌++◌, drop}
use Rattle.std.specs.List.{flat_map}
use Rattle.si_model.specs.Findings.{keys_in}
use Rattle.si_model.proofs.findings.keys_of.Given as goal

abbrev pub invariant-loop-txn : goal.invariant-loop-txn
invariant-loop-txn l = l.keys.items ++ flat_map keys_in (drop l.txn-index l.txns) ≡ flat_map keys_in l.txns
