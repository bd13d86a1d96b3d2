use Rattle.std.proofs.Common.{take, Some}
use Rattle.si_accept.specs.Writers.{SetsWriters}
use Rattle.si_accept.proofs.writers.Writers.add_all.Given as goal

abbrev pub invariant-loop-place : goal.invariant-loop-place
invariant-loop-place l = SetsWriters (take l.place l.ops) (Some l.id) l.initial.self l.self
