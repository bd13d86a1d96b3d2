use Rattle.std.proofs.Common.{ℕ, ◌+◌, List, take}
use Rattle.si_model.specs.declared.edits.Edit.{Edit}
use Rattle.si_model.specs.Journals.{IsAccepted}
use Rattle.si_shard.specs.AppliedEdits.{AreApplied}
use Rattle.si_shard.specs.ToldEdits.{AreTold}
use Rattle.si_shard.proofs.applied_edits.Applied.apply_told.Given as goal

abbrev pub invariant-loop-place : goal.invariant-loop-place
invariant-loop-place l = (J : List Edit) (p : ℕ) → IsAccepted J → AreTold J p l.edits → AreApplied l.id (take p J) l.fn.self → AreApplied l.id (take (p + l.place) J) l.self
