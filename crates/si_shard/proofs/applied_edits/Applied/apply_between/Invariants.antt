use Rattle.std.proofs.Common.{take}
use Rattle.si_shard.specs.AppliedEdits.{AreApplied}
use Rattle.si_shard.proofs.applied_edits.Applied.apply_between.Given as goal

abbrev pub invariant-loop-place : goal.invariant-loop-place
invariant-loop-place l = AreApplied l.id (take l.place l.book.journal) l.self
