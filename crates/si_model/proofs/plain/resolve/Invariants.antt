use Rattle.std.proofs.Common.{◌≡◌, ◌++◌, drop, take, map}
use Rattle.si_model.specs.Edits.{resolved}
use Rattle.si_model.proofs.plain.resolve.Given as goal

abbrev pub invariant-loop-txn : goal.invariant-loop-txn
invariant-loop-txn l = l.txn-items ≡ map (resolved l.id l.outcome) (take l.txn-index l.initial.txn-items) ++ drop l.txn-index l.initial.txn-items
