-- The lines of an input, and the items that they are.
use Rattle.std.specs.Prelude.{◌≡◌, ℕ, ◌+◌, List, [], ◌∷◌, ◌++◌, length, Bool, ◌&&◌, ◌||◌, ◌==◌, nat_le, if◌then◌else◌, Option, Some, None, Result, ⊤}
use Rattle.std.specs.List.{list_any, list_all}
use Rattle.si_model.specs.declared.edits.Edit.{Edit}
use Rattle.si_text.specs.Lines.{edit_of}
use Rattle.si_text.specs.declared.faults.LineFault.{LineFault}
use Rattle.si_text.specs.declared.read_edits.TheConstants.{MOST_LINE_BYTES}

-- a line that isn't blank: its number, and its edit or its fault
abbrev pub Item : Type 0
Item = ℕ × Result Edit LineFault

abbrev pub is_line_feed : ℕ → Bool
is_line_feed byte = byte == 10

abbrev pub has_line_feed : List ℕ → Bool
has_line_feed bytes = list_any is_line_feed bytes

-- the lines of the bytes that stand behind this one, which is no line feed, with it
abbrev pub with_first : ℕ → List (List ℕ) → List (List ℕ)
with_first byte [] = (byte ∷ []) ∷ []
with_first byte (line ∷ others) = (byte ∷ line) ∷ others

-- the lines without their line feeds; the last one may lack it
abbrev pub lines_of : List ℕ → List (List ℕ)
lines_of [] = []
lines_of (byte ∷ bytes) = if is_line_feed byte then [] ∷ lines_of bytes else with_first byte (lines_of bytes)

-- a space, a tab or a carriage return
abbrev pub is_space : ℕ → Bool
is_space byte = byte == 32 || byte == 9 || byte == 13

-- nothing but spaces, no more of them than a line may have bytes
unfoldable pub is_blank : List ℕ → Bool
is_blank line = nat_le (length line) MOST_LINE_BYTES && list_all is_space line

-- the item that a line is; a blank one is none
abbrev pub item_of : ℕ → List ℕ → List Item
item_of number line = if is_blank line then [] else (number, edit_of line) ∷ []

-- the items of lines that are numbered from this number on
abbrev pub numbered : ℕ → List (List ℕ) → List Item
numbered number [] = []
numbered number (line ∷ others) = item_of number line ++ numbered (number + 1) others

-- the items of the bytes that stand behind so many lines
abbrev pub items_after : ℕ → List ℕ → List Item
items_after before bytes = numbered (before + 1) (lines_of bytes)

-- the items of an input; its lines are numbered from 1
abbrev pub items_of : List ℕ → List Item
items_of bytes = items_after 0 bytes

-- the known bytes behind so many lines give these items, and the rest of them stands behind so many more
abbrev pub Yields : ℕ → Option (List ℕ) → ℕ → Option (List ℕ) → List Item → Type 0
Yields before None after None items = ⊤
Yields before None after (Some rest) items = ⊥
Yields before (Some bytes) after None items = ⊤
Yields before (Some bytes) after (Some rest) items = items_after before bytes ≡ items ++ items_after after rest
