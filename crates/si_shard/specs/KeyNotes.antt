-- What came and what went on the keys of a shard. All of it is this project's choice.
use Rattle.std.specs.Prelude.{◌≡◌, ◌≢◌, ⊤, ℕ, ◌+◌, not, count_by, List, [], ◌++◌, map, None, Some, Option}
use Rattle.std.specs.List.{filter, list_any}
use Rattle.si_model.specs.declared.findings.Finding.{Finding}
use Rattle.si_model.specs.declared.kinds.Kind.{Kind}
use Rattle.si_model.specs.Findings.{finding_at}
use Rattle.si_model.specs.Order.{finding_eq}
use Rattle.si_judge.specs.Kept.{Kept, Noted}
use Rattle.si_judge.specs.Notes.{times_found}
use Rattle.si_shard.specs.declared.key_notes.Changes.{Changes}
use Rattle.si_shard.specs.declared.key_notes.KeyNotes.{KeyNotes}

-- those of the findings that aren't among the others
abbrev pub not_among : List Finding → List Finding → List Finding
not_among others found = filter (λ f. not (list_any (finding_eq f) others)) found

-- how often a finding is among these
abbrev pub times_in : Finding → List Finding → ℕ
times_in f fs = count_by (finding_eq f) fs

-- how often a kind is found by what is kept of a key
abbrev pub times_kept : Kind → Option Kept → ℕ
times_kept k None = 0
times_kept k (Some s) = times_found k s.reads s.overlaps

-- the finding was there n times before these changes, and is m times now
abbrev pub IsChangedTo : Changes → Finding → ℕ → ℕ → Type 0
IsChangedTo c f n m = n + times_in f c.came.items ≡ m + times_in f c.went.items

-- notes were begun, and nothing is in what is lent
abbrev pub IsBlank : Noted → Type 0
IsBlank None = ⊥
IsBlank (Some b) = (b.value.came.items ≡ []) × (b.value.went.items ≡ [])

-- notes were begun, and nothing came or went since
pub record AreBegun (notes : KeyNotes) : Type 0 where
  pub blank : IsBlank notes.lent
  pub came : notes.changes.came.items ≡ []
  pub went : notes.changes.went.items ≡ []

-- where something was noted on the key x it was taken over, and nothing of it is left
abbrev pub IsGathered : List ℕ → Noted → KeyNotes → KeyNotes → Type 0
IsGathered x None old new = ⊤
IsGathered x (Some b) old new = IsBlank new.lent × (new.changes.came.items ≡ old.changes.came.items ++ map (finding_at x) b.value.came.items)
    × (new.changes.went.items ≡ old.changes.went.items ++ map (finding_at x) b.value.went.items)

-- these were found on the keys before all that was noted, where that is kept of each key now
pub record WereFound (found : List Finding) (notes : KeyNotes) (kept : List ℕ → Option Kept) : Type 0 where
  pub blank : IsBlank notes.lent
  pub each : (f : Finding) → IsChangedTo notes.changes f (times_in f found) (times_kept f.kind (kept f.key))

-- what was found before all that was noted is still what was, where what is kept of the key x is another
pub record KeepsNotesAt (x : List ℕ) (old new : KeyNotes) (was is : Option Kept) : Type 0 where
  pub blank : IsBlank old.lent → IsBlank new.lent
  pub here : IsBlank old.lent → (k : Kind) (n : ℕ) → IsChangedTo old.changes (finding_at x k) n (times_kept k was) → IsChangedTo new.changes (finding_at x k) n (times_kept k is)
  pub others : IsBlank old.lent → (f : Finding) (n m : ℕ) → f.key ≢ x → IsChangedTo old.changes f n m → IsChangedTo new.changes f n m

-- what was found before all that was noted is still what was
abbrev pub KeepsNotes : KeyNotes → KeyNotes → (List ℕ → Option Kept) → (List ℕ → Option Kept) → Type 0
KeepsNotes old new was is = (found : List Finding) → WereFound found old was → WereFound found new is
