-- The entries of a map in either form, and how many of them move.
use Rattle.std.specs.Prelude.{◌≡◌, ℕ, ◌+◌, ◌<◌, ⊤, List, length, slice_get}
use Rattle.std.specs.Map.{keys_of}
use Rattle.std.specs.declared.cmp.Ordering.{Ordering}
use Rattle.si_sorted.specs.Entries.{moved_by, moved_without}
use Rattle.si_sorted.specs.declared.forms.Form.{Form}
use Rattle.si_sorted.specs.declared.forms.Form.TheVariants.{Flat, Tree}

module _ {K X : Type 0} where
  abbrev pub entries_in : Form K X → List (K × X)
  entries_in (Flat entries) = entries.items
  entries_in (Tree map) = map.entries

  -- how many entries move if one comes with the key, and if the key's goes; in a tree none does
  module _ (cmp : K → K → Ordering) where
    abbrev pub moved_by_one : Form K X → K → ℕ
    moved_by_one (Flat entries) k = moved_by cmp entries.items k
    moved_by_one (Tree map) k = 0

    abbrev pub moved_without_one : Form K X → K → ℕ
    moved_without_one (Flat entries) k = moved_without cmp entries.items k
    moved_without_one (Tree map) k = 0

  -- at most n entries move, where they stand side by side before and afterwards: the keys before the last n are where they were
  abbrev pub MovesAtMost : ℕ → Form K X → Form K X → Type 0
  MovesAtMost n (Flat old) (Flat new) = (i : ℕ) → i + n < length old.items → slice_get (keys_of new.items) i ≡ slice_get (keys_of old.items) i
  MovesAtMost n (Flat old) (Tree new) = ⊤
  MovesAtMost n (Tree old) new = ⊤

  -- a tree stays one
  abbrev pub StaysTree : Form K X → Form K X → Type 0
  StaysTree (Flat old) new = ⊤
  StaysTree (Tree old) (Flat new) = ⊥
  StaysTree (Tree old) (Tree new) = ⊤
