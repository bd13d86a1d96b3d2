use Rattle.std.proofs.Common.{take}
use Rattle.si_evidence.specs.Writers.{AreBuckets}
use Rattle.si_evidence.proofs.writers.Writers.of.Given as goal

abbrev pub invariant-loop-txn : goal.invariant-loop-txn
invariant-loop-txn l = AreBuckets (take l.txn-index l.txns) l.writers
