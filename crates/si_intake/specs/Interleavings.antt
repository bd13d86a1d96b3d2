-- What it is for a list to be an interleaving of others.
use Rattle.std.specs.Prelude.{◌≡◌, ℕ, ◌<◌, List, [], length, slice_index_or, All}
use Rattle.si_intake.specs.declared.items.Item.{Item}
use Rattle.si_intake.specs.Items.{of_source}

-- each item comes from one of the sources, and the items that come from a source are all that it has put, in its order
abbrev pub IsInterleaving : List Item → List (List Item) → Type 0
IsInterleaving taken put =
    All (λ item. item.source < length put) taken
    × ((source : ℕ) → source < length put → of_source source taken ≡ slice_index_or put source [])
