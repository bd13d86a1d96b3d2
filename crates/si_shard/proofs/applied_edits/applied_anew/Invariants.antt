use Rattle.std.proofs.Common.{nat_eq, take}
use Rattle.std.specs.HashMap.{get}
use Rattle.si_shard.specs.AppliedEdits.{AreApplied}
use Rattle.si_shard.specs.PresentTxns.{AreById}
use Rattle.si_shard.proofs.applied_edits.applied_anew.Given as goal

abbrev pub invariant-loop-place : goal.invariant-loop-place
invariant-loop-place l = AreApplied l.id (take l.place l.edits) l.applied × AreById (take l.place l.edits) (get nat_eq l.present.by_id)
