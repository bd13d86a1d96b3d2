-- Who has which stamp: pairs of a stamp and the id of a transaction that has it.
use Rattle.std.specs.Prelude.{◌≡◌, ℕ, ◌≤◌, Bool, true, false, ◌&&◌, if◌then◌else◌, nat_eq, nat_lt, List, Some, None, Option}
use Rattle.std.specs.List.{list_any}
use Rattle.si_model.specs.declared.numbers.Stamp.{Stamp}
use Rattle.si_model.specs.declared.numbers.TxnId.{TxnId}

-- whether two pairs of numbers are one
abbrev pub same_pair : ℕ × ℕ → ℕ × ℕ → Bool
same_pair a b = nat_eq a.0 b.0 && nat_eq a.1 b.1

-- whether the transaction u has the stamp s
abbrev pub has : List (ℕ × ℕ) → Stamp → TxnId → Bool
has H s u = list_any (same_pair (s.0, u.0)) H

-- the least of the ids that pass the test, if any does
abbrev pub IsLeast : (TxnId → Bool) → Option TxnId → Type 0
IsLeast test None = (w : TxnId) → test w ≡ false
IsLeast test (Some u) = (test u ≡ true) × ((w : TxnId) → test w ≡ true → u.0 ≤ w.0)

-- the lesser of two ids, or the one that there is
abbrev pub lesser_of : Option TxnId → Option TxnId → Option TxnId
lesser_of None b = b
lesser_of (Some u) None = Some u
lesser_of (Some u) (Some w) = if nat_lt w.0 u.0 then Some w else Some u

-- whether u has s is b after the change, and all else is as before
abbrev pub Sets : Stamp → TxnId → Bool → List (ℕ × ℕ) → List (ℕ × ℕ) → Type 0
Sets s u b old new = (t : Stamp) (w : TxnId) → has new t w ≡ (if same_pair (s.0, u.0) (t.0, w.0) then b else has old t w)

-- all is as before
abbrev pub SameHolders : List (ℕ × ℕ) → List (ℕ × ℕ) → Type 0
SameHolders old new = (t : Stamp) (w : TxnId) → has new t w ≡ has old t w

-- whether u has the stamp is b after the change, if there is one, and all else is as before
abbrev pub SetsPerhaps : Option Stamp → TxnId → Bool → List (ℕ × ℕ) → List (ℕ × ℕ) → Type 0
SetsPerhaps None u b old new = SameHolders old new
SetsPerhaps (Some s) u b old new = Sets s u b old new

-- u doesn't have the stamp, if there is one
abbrev pub LacksPerhaps : Option Stamp → TxnId → List (ℕ × ℕ) → Type 0
LacksPerhaps None u H = Unit {0}
LacksPerhaps (Some s) u H = has H s u ≡ false
