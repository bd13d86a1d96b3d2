use Rattle.std.proofs.Common.{take, None}
use Rattle.si_accept.specs.Writers.{SetsWriters}
use Rattle.si_accept.proofs.writers.Writers.remove_all.Given as goal

abbrev pub invariant-loop-op : goal.invariant-loop-op
invariant-loop-op l = SetsWriters (take l.op-index l.ops) None l.initial.self l.self
