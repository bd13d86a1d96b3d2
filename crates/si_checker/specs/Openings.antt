-- What is opened, before it is named. All of it is this project's choice.
use Rattle.std.specs.Prelude.{◌≡◌, ℕ, ◌≤◌, ◌⊎◌, ◌<◌, List, None, Option, Some}
use Rattle.std.specs.List.{Contains}
use Rattle.si_model.specs.declared.edits.TheConstants.{MOST_EDITS}
use Rattle.si_words.specs.declared.views.BookView.{BookView}
use Rattle.si_words.specs.declared.views.ShardView.{ShardView}
use Rattle.si_words.specs.Seats.{Board, Seated, new_shards, seated}
use Rattle.si_words.specs.Views.{new_book, new_shard}
use Rattle.si_checker.specs.declared.openings.OpenFault.{OpenFault}
use Rattle.si_checker.specs.declared.openings.OpenFault.TheVariants as fault

-- from 1 to the most
abbrev pub IsWithin : ℕ → ℕ → Type 0
IsWithin most n = (1 ≤ n) × (n ≤ most)

-- not from 1 to the most
abbrev pub IsBeyond : ℕ → ℕ → Type 0
IsBeyond most n = (n < 1) ⊎ (most < n)

-- a checker of so many shards and passes, whose journal may have so many edits, can be opened
pub record CanOpen (shards passes limit : ℕ) : Type 0 where
  pub some_shards : IsWithin 16 shards
  pub some_passes : IsWithin 16 passes
  pub some_edits : IsWithin MOST_EDITS limit

-- the first of the three that is out of its bounds; or none is, and the growth of some memory was refused
abbrev pub IsOpenFault : ℕ → ℕ → ℕ → OpenFault → Type 0
IsOpenFault shards passes limit fault.BadShards = IsBeyond 16 shards
IsOpenFault shards passes limit fault.BadPasses = IsWithin 16 shards × IsBeyond 16 passes
IsOpenFault shards passes limit fault.BadLimit = IsWithin 16 shards × IsWithin 16 passes × IsBeyond MOST_EDITS limit
IsOpenFault shards passes limit fault.OutOfMemory = CanOpen shards passes limit

-- the number of a fault, if it has one
abbrev pub open_fault_code : OpenFault → Option ℕ
open_fault_code fault.BadShards = Some 51
open_fault_code fault.BadPasses = Some 52
open_fault_code fault.BadLimit = Some 53
open_fault_code fault.OutOfMemory = None

-- the parts of one opening as contracts see them
pub record PartsState : Type 0 where
  pub board : Board
  pub limit : ℕ

-- what the parts keep: nothing is issued, applied or seen
pub record AreParts (board : Board) (book : Seated BookView) (seats : List (Seated ShardView)) (limit : ℕ) : Type 0 where
  pub can : CanOpen board.shards board.passes limit
  pub fresh_book : book ≡ seated board.table (new_book board.passes)
  pub fresh_seats : seats ≡ new_shards board.table board.shards

-- the seats of shards that have applied nothing
abbrev pub AreNewSeats : Board → List (Seated ShardView) → Type 0
AreNewSeats board seats = (s : Seated ShardView) → Contains seats s → (s.view.number < board.shards) × (s ≡ seated board.table (new_shard s.view.number))
