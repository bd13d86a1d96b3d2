-- The text of a key where it stands. All of it is this project's choice.
use Rattle.std.specs.Prelude.{◌≡◌, ℕ, ◌≤◌, List, take, IsUtf8, ⊤}
use Rattle.std.specs.Arc.{arc_str_bytes}
use Rattle.si_model.specs.declared.keys.Text.{Text}
use Rattle.si_model.specs.declared.keys.Text.TheVariants as text
use Rattle.si_model.specs.declared.keys.TheConstants.{MOST_INLINE_BYTES}
use Rattle.si_model.specs.KeyTexts.{shard_hash}

-- its bytes
abbrev pub text_bytes : Text → List ℕ
text_bytes (text.Short n h xs) = take n xs
text_bytes (text.Long h t) = arc_str_bytes t

-- the hash beside them
abbrev pub text_hash : Text → ℕ
text_hash (text.Short n h xs) = h
text_hash (text.Long h t) = h

-- a short text is UTF-8, and no longer than its array
abbrev pub IsWhole : Text → Type 0
IsWhole (text.Short n h xs) = (n ≤ MOST_INLINE_BYTES) × ∥ IsUtf8 (take n xs) ∥₁
IsWhole (text.Long h t) = ⊤

-- the text is whole, and has these bytes and their hash
pub record IsText (xs : List ℕ) (t : Text) : Type 0 where
  pub bytes : text_bytes t ≡ xs
  pub hash : text_hash t ≡ shard_hash xs
  pub whole : IsWhole t
