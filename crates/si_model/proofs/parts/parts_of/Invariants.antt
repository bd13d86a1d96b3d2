use Rattle.std.proofs.Common.{◌≡◌, ◌++◌, drop}
use Rattle.si_model.specs.Parts.{parts}
use Rattle.si_model.proofs.parts.parts_of.Given as goal

abbrev pub invariant-loop-txn : goal.invariant-loop-txn
invariant-loop-txn l = l.found.items ++ parts l.key (drop l.txn-index l.txns) ≡ parts l.key l.txns
