-- What a book is to its callers.
use Rattle.std.specs.Prelude.{◌≡◌, ℕ, ◌≤◌, List, length}
use Rattle.si_model.specs.declared.edits.Edit.{Edit}
use Rattle.si_model.specs.declared.edits.TheConstants.{MOST_EDITS}
use Rattle.si_model.specs.Parts.{Present}
use Rattle.si_model.specs.Journals.{present, IsAccepted}
use Rattle.si_accept.specs.declared.notes.Notes.{Notes}
use Rattle.si_accept.specs.Notes.{AreNotes}

-- the accepted edits, of which there may be so many; what is present follows from them
pub record BookState : Type 0 where
  pub limit : ℕ
  pub journal : List Edit
  -- from this place on it is known what resolutions and withdrawals were about
  pub noted : ℕ

-- a journal of accepted edits within its limit, what is present after them, and the notes of it
pub record IsBook (limit : ℕ) (journal : List Edit) (contents : Present) (kept : Notes) : Type 0 where
  pub some : 1 ≤ limit
  pub most : limit ≤ MOST_EDITS
  pub within : length journal ≤ limit
  pub accepted : IsAccepted journal
  pub same : contents ≡ present journal
  pub notes : AreNotes journal kept
