-- The items of several sources in one list.
use Rattle.std.specs.Prelude.{◌≡◌, ℕ, ◌<◌, ◌==◌, Bool, List, All, filter, length, slice_get, Some}
use Rattle.si_text.specs.Inputs.{Item}
use Rattle.si_run.specs.Outputs.{SourcedItem, from_source}

-- whether the item comes from that source
abbrev pub comes_from : ℕ → SourcedItem → Bool
comes_from source item = item.0 == source

-- the items that come from the source, in order
abbrev pub items_from : ℕ → List SourcedItem → List SourcedItem
items_from source items = filter (comes_from source) items

-- each item comes from one of the sources, and those that come from a source are the items of that source: whole, each once and in order
abbrev pub IsInterleaving : List SourcedItem → List (List Item) → Type 0
IsInterleaving items sources =
    All (λ item. item.0 < length sources) items
    × ((source : ℕ) (own : List Item) → slice_get sources source ≡ Some own → items_from source items ≡ from_source source own)
