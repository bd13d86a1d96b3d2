use Rattle.std.proofs.Common.{take}
use Rattle.si_evidence.specs.Writers.{Puts}
use Rattle.si_evidence.proofs.writers.Writers.add_txn.Given as goal

abbrev pub invariant-loop-op : goal.invariant-loop-op
invariant-loop-op l = Puts l.txn (take l.op-index l.txn.ops) l.fn.self l.self
