-- Edits of a journal, each with the transaction that it is about. All of it is this project's choice.
use Rattle.std.specs.Prelude.{◌≡◌, ℕ, ◌+◌, ◌≤◌, List, length, Some, take, slice_get}
use Rattle.si_model.specs.declared.edits.Edit.{Edit}
use Rattle.si_model.specs.Journals.{present}
use Rattle.si_accept.specs.Notes.{txn_before}
use Rattle.si_shard.specs.declared.told_edits.ToldEdit.{ToldEdit}

-- it is the journal's edit at the place, with the transaction that this resolves or withdraws as it is before
pub record IsToldAt (journal : List Edit) (place : ℕ) (t : ToldEdit) : Type 0 where
  pub edit : slice_get journal place ≡ Some t.edit
  pub before : t.before ≡ txn_before (present (take place journal)) t.edit

-- they are the journal's edits from the place first on
pub record AreTold (journal : List Edit) (first : ℕ) (ts : List ToldEdit) : Type 0 where
  pub within : first + length ts ≤ length journal
  pub each : (i : ℕ) (t : ToldEdit) → slice_get ts i ≡ Some t → IsToldAt journal (first + i) t
