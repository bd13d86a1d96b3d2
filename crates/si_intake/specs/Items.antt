-- Items: which are the last of their source, and which come from a source.
use Rattle.std.specs.Prelude.{◌≡◌, ℕ, ◌<◌, ◌==◌, Bool, true, false, List, filter}
use Rattle.std.specs.List.{list_any}
use Rattle.si_intake.specs.declared.items.What.{What}
use Rattle.si_intake.specs.declared.items.What.TheVariants.{Line, ReadFault, NoMemory, End}
use Rattle.si_intake.specs.declared.items.Item.{Item}

-- a line may be followed by more, and anything else is the last that its source tells
abbrev pub is_closing : What → Bool
is_closing (Line item) = false
is_closing ReadFault = true
is_closing NoMemory = true
is_closing End = true

abbrev pub is_last : Item → Bool
is_last item = is_closing item.what

-- whether a last item is among them
abbrev pub has_last : List Item → Bool
has_last items = list_any is_last items

abbrev pub comes_from : ℕ → Item → Bool
comes_from source item = item.source == source

-- the items that come from the source, in order
abbrev pub of_source : ℕ → List Item → List Item
of_source source items = filter (comes_from source) items

-- the last item of each of so many sources is among them
abbrev pub HaveAllEnded : ℕ → List Item → Type 0
HaveAllEnded sources items = (source : ℕ) → source < sources → has_last (of_source source items) ≡ true
