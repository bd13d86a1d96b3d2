-- What a line buffer stands for.
use Rattle.std.specs.Prelude.{⊤, ◌+◌, ◌≤◌, length, Some, None, ◌≡◌, ℕ, ◌-◌, ◌^◌, ◌⊎◌, List, [], ◌++◌, Option}
use Rattle.std.specs.Io.KnownBytes.{prepend_known}
use Rattle.si_text.specs.Inputs.{Item, items_after}
use Rattle.si_text.specs.declared.read_lines.LineBuffer.{LineBuffer}

-- how many lines have ended
abbrev pub lines_ended : LineBuffer → ℕ
lines_ended buffer = buffer.lines

-- how many reads gave bytes
abbrev pub reads_made : LineBuffer → ℕ
reads_made buffer = buffer.reads

-- the bytes that were read and stand behind these lines; of a line that is too long, so many that it still is
abbrev pub bytes_held : LineBuffer → List ℕ
bytes_held buffer = buffer.line.items ++ buffer.piece

-- the bytes that are still to come in lines, where they are known: those held, and those that a source has left
abbrev pub bytes_to_come : LineBuffer → Option (List ℕ) → Option (List ℕ)
bytes_to_come buffer left = prepend_known (bytes_held buffer) left

-- no line has begun, and no read was made
abbrev pub IsFresh : LineBuffer → Type 0
IsFresh buffer = (lines_ended buffer ≡ 0) × (bytes_held buffer ≡ []) × (reads_made buffer ≡ 0)

-- all reads are used up, or all numbers of lines
abbrev pub IsSpent : LineBuffer → Type 0
IsSpent buffer = (reads_made buffer ≡ 2 ^ 64 - 1) ⊎ (lines_ended buffer ≡ 2 ^ 64 - 1)

-- whatever bytes follow, the old buffer gives these items, and then what the new one gives
pub record Passes (old new : LineBuffer) (items : List Item) : Type 0 where
  pub same : (more : List ℕ) → items_after (lines_ended old) (bytes_held old ++ more) ≡ items ++ items_after (lines_ended new) (bytes_held new ++ more)

-- reads are counted, and lines end, no more often than known bytes are taken: so an input of fewer than 2^64 - 1 bytes spends no buffer
abbrev pub CountsBytes : LineBuffer → Option (List ℕ) → LineBuffer → Option (List ℕ) → Type 0
CountsBytes old None new None = ⊤
CountsBytes old None new (Some rest) = ⊥
CountsBytes old (Some left) new None = ⊤
CountsBytes old (Some left) new (Some rest) =
    (reads_made new + length rest ≤ reads_made old + length left)
    × (lines_ended new + length (bytes_held new ++ rest) ≤ lines_ended old + length (bytes_held old ++ left))
