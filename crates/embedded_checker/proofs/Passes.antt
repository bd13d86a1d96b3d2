-- The passes of an opening are of its table.
use Rattle.std.proofs.Common.{◌≡◌, ℕ, zero, suc, refl, [], ◌∷◌, All, arith}
use Rattle.std.proofs.lemmas.List.Elements.{All-append, All-nil}
use Rattle.si_words.specs.declared.views.PassView.{PassView}
use Rattle.si_words.specs.Views.{new_pass}
use Rattle.si_words.specs.Seats.{Board, Seated, seated, new_passes}

abbrev pub IsOf : Board → Seated PassView → Type 0
IsOf board pass = pass.table ≡ board.table

one : (board : Board) (shards n : ℕ) → All (IsOf board) (seated board.table (new_pass shards n) ∷ [])
one board shards n zero d within = refl
one board shards n (suc k) d within = absurd (omega arith)

pub of_table : (board : Board) (shards n : ℕ) → All (IsOf board) (new_passes board.table shards n)
of_table board shards zero = All-nil (IsOf board)
of_table board shards (suc n) =
    All-append (IsOf board) (new_passes board.table shards n) (seated board.table (new_pass shards n) ∷ []) (of_table board shards n) (one board shards n)
