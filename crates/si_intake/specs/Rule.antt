-- The rule of the queue: between any two steps of any threads, each source's items are where they should be. What each source
-- has put and what was taken stand in no word: they are what the rule says there is.
use Rattle.std.specs.Prelude.{◌≡◌, ℕ, ◌<◌, ◌≤◌, true, false, List, [], ◌∷◌, ◌++◌, length, slice_get, Some, ⊤}
use mathlib.Core.Option.{Option, some, none}
use lib.ListN.{get_elem?}
use Rattle.si_intake.specs.declared.items.Item.{Item}
use Rattle.si_intake.specs.declared.views.View.{View}
use Rattle.si_intake.specs.Items.{is_last, has_last, of_source}
use Rattle.si_intake.specs.Views.{with_got}

-- nothing is behind a last item
abbrev pub EndsAtItsLast : List Item → Type 0
EndsAtItsLast [] = ⊤
EndsAtItsLast (x ∷ xs) = (is_last x ≡ true → xs ≡ []) × EndsAtItsLast xs

-- each source has one pass, which knows what the source has put
abbrev pub FitsSource : (ℕ → Option ℕ) → (ℕ → List Item) → ℕ → View → Type 0
FitsSource seat put pass v = v.sends ≡ true → (seat v.from ≡ some pass) × (v.put ≡ put v.from)

-- the one accepter knows what was taken, that the sources which are not made have put nothing, and what those that it has taken
-- in have put in all
abbrev pub FitsAccepter : ℕ → (ℕ → Option ℕ) → (ℕ → List Item) → List Item → ℕ → View → Type 0
FitsAccepter accepter seat put taken pass v =
    v.gets ≡ true
    → (pass ≡ accepter) × (v.got ≡ taken)
    × ((source : ℕ) → v.made ≤ source → (seat source ≡ none) × (put source ≡ []))
    × ((source : ℕ) (own : List Item) → slice_get v.known source ≡ Some own → (seat source ≡ none) × (own ≡ put source))
    × (length v.known ≤ v.made)

-- what was taken of a source, and then what the queue holds of it, is what it has put
abbrev pub IsKept : List Item → List View → Type 0
IsKept items views =
    (accepter : ℕ) × (seat : ℕ → Option ℕ) × (put : ℕ → List Item) × (taken : List Item)
    × ((source : ℕ) → (of_source source (taken ++ items) ≡ put source) × EndsAtItsLast (put source))
    × ((pass : ℕ) (v : View) → get_elem? views pass ≡ some v → FitsSource seat put pass v × FitsAccepter accepter seat put taken pass v)

-- ---- what the accepter's steps tell

-- the item is the next that was taken: of one of the sources, of which no last item was taken before
abbrev pub IsTakenFrom : View → Item → View → Type 0
IsTakenFrom before item after =
    (after ≡ with_got item before) × (item.source < before.made) × (has_last (of_source item.source before.got) ≡ false)

-- of each source that was taken in, what was taken and then what the queue holds is what it has put
abbrev pub IsOnItsWay : View → List Item → Type 0
IsOnItsWay v items =
    (source : ℕ) (own : List Item) → slice_get v.known source ≡ Some own → (of_source source (v.got ++ items) ≡ own) × EndsAtItsLast own
