-- The journal, with the places of the transactions that are present and copies of those that were resolved.
use Rattle.std.specs.Prelude.{◌≡◌, ℕ, ◌≤◌, nat_eq, if◌then◌else◌, List, length, Some, None, Option, slice_get}
use Rattle.std.specs.List.{filter_map, enumerate_from}
use Rattle.std.specs.Option.{option_or, option_eq}
use Rattle.si_model.specs.declared.edits.Edit.{Edit}
use Rattle.si_model.specs.declared.edits.Edit.TheVariants as edit
use Rattle.si_model.specs.declared.transactions.Txn.{Txn}

-- how many more edits, places and copies take no memory
pub record Room : Type 0 where
  pub edits : ℕ
  pub places : ℕ
  pub copies : ℕ

-- there is room for one more edit, place and copy
pub record HasRoom (room : Room) : Type 0 where
  pub edits : 1 ≤ room.edits
  pub places : 1 ≤ room.places
  pub copies : 1 ≤ room.copies

-- the edits, the transactions that are present after them, and the room for more
pub record Kept : Type 0 where
  pub edits : List Edit
  pub txns : List Txn
  pub room : Room

-- the transaction that arrives by the edit at a place, or its copy, where the place is the one under its id
abbrev pub present_at : (ℕ → Option ℕ) → (ℕ → Option Txn) → ℕ × Edit → Option Txn
present_at places copies (k, edit.Arrive T) = if option_eq nat_eq (places T.id.0) (Some k) then option_or (copies T.id.0) (Some T) else None
present_at places copies (k, edit.Resolve u o) = None
present_at places copies (k, edit.Withdraw u) = None
present_at places copies (k, edit.SetUp x v) = None

-- all of them, in the order of arrival
abbrev pub present_in : (ℕ → Option ℕ) → (ℕ → Option Txn) → List Edit → List Txn
present_in places copies edits = filter_map (present_at places copies) (enumerate_from 0 edits)

-- under an id stands the place of an arrival of that id, or a copy of one that has a place; and there are so many places as transactions
pub record AreInJournal (edits : List Edit) (places : ℕ → Option ℕ) (copies : ℕ → Option Txn) (many : ℕ) : Type 0 where
  pub arrived : (u k : ℕ) → places u ≡ Some k → (T : Txn) × (slice_get edits k ≡ Some (edit.Arrive T)) × (T.id.0 ≡ u)
  pub copied : (u : ℕ) (T : Txn) → copies u ≡ Some T → (T.id.0 ≡ u) × (k : ℕ) × (places u ≡ Some k)
  pub count : many ≡ length (present_in places copies edits)
