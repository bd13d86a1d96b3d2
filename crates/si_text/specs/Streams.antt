-- What sources over std's readers have given, and what is left of the bytes that were foreseen.
use Rattle.std.specs.Prelude.{ℕ, ◌++◌, ◌==◌, List, [], ◌∷◌, Bool, true, Option, Some, None, if◌then◌else◌}
use Rattle.si_text.specs.declared.streams.StdSource.{StdSource}

-- what a source has given: its bytes up to the end, whether a read has found this, and whether a later one gave bytes behind it
pub record Given : Type 0 where
  pub bytes : List ℕ
  pub has_ended : Bool
  pub has_gone_on : Bool

abbrev pub given_by : {R Z : Type 0} → StdSource R Z → Given
given_by source = record { bytes = source.given.numbers; has_ended = source.has_ended; has_gone_on = source.has_gone_on }

-- the same after a read that gave this piece: an empty one is the end
abbrev pub given_with : Given → List ℕ → Given
given_with given [] = record given { has_ended = true }
given_with given (byte ∷ piece) = if given.has_ended then record given { has_gone_on = true } else record given { bytes = given.bytes ++ byte ∷ piece }

-- ---- what is left

-- what is left of the foreseen bytes behind those that were given, as long as these are their beginning
abbrev pub left_behind : List ℕ → List ℕ → Option (List ℕ)
left_behind whole [] = Some whole
left_behind [] (byte ∷ given) = None
left_behind (next ∷ whole) (byte ∷ given) = if next == byte then left_behind whole given else None

-- at the end nothing is left, or other bytes were foreseen
abbrev pub left_at_end : Option (List ℕ) → Option (List ℕ)
left_at_end None = None
left_at_end (Some []) = Some []
left_at_end (Some (byte ∷ rest)) = None

-- and bytes behind the end were not foreseen
abbrev pub left_by : List ℕ → Given → Option (List ℕ)
left_by whole given = if given.has_gone_on then None else (if given.has_ended then left_at_end (left_behind whole given.bytes) else left_behind whole given.bytes)
