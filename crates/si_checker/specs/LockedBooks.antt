-- What lies under the lock of the book. All of it is this project's choice.
use Rattle.std.specs.Prelude.{◌≡◌, ℕ, ◌≤◌, All, List, length}
use Rattle.si_model.specs.declared.edits.TheConstants.{MOST_EDITS}
use Rattle.si_model.specs.Journals.{IsAccepted}
use Rattle.si_accept.specs.Books.{BookState}
use Rattle.si_words.specs.declared.views.BookView.{BookView}
use Rattle.si_words.specs.Entries.{edits_of}
use Rattle.si_words.specs.Seats.{Board, Seated}
use Rattle.si_checker.specs.Blocks.{BlockState, IsBlockOf}

-- the book's journal is the edits of the journal that its seat knows, which is accepted and within the limit, and the kept blocks are parts
-- of it; no more are kept than the last 16
pub record IsLockedBook (board : Board) (limit : ℕ) (book : BookState) (blocks : List BlockState) (seat : Seated BookView) : Type 0 where
  pub table : seat.table ≡ board.table
  pub passes : seat.view.passes ≡ board.passes
  pub within : book.limit ≡ limit
  pub most : limit ≤ MOST_EDITS
  pub journal : book.journal ≡ edits_of seat.view.journal
  pub accepted : IsAccepted (edits_of seat.view.journal)
  pub room : length seat.view.journal ≤ limit
  pub few : length blocks ≤ 16
  pub parts : All (IsBlockOf (edits_of seat.view.journal)) blocks
