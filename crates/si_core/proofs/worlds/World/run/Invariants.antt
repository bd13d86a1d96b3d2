use Rattle.std.proofs.Common.{◌+◌, ◌≤◌, length}
use Rattle.std.specs.Vec.{vec_capacity, vec_len}
use Rattle.si_core.specs.Machine.{IsRun}
use Rattle.si_core.proofs.worlds.World.run.Given as goal

abbrev pub invariant-loop-step : goal.invariant-loop-step
invariant-loop-step l = IsRun l.initial.self l.yielded l.replies.items l.self × (vec_len l.replies + length l.step-iterator.rest.items ≤ vec_capacity l.replies)
