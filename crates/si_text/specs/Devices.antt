-- What devices tell of themselves, and of a call to which they are lent.
use Rattle.std.specs.Prelude.{◌≡◌, ◌++◌, ℕ, ◌<◌, List, [], ◌∷◌, Bool, Option, Some, None, Result, MatchResult, length, take, not, map, ⊤, if◌then◌else◌}
use Rattle.std.specs.Io.KnownBytes.{IsAtEnd}

-- a source: the bytes that reads will give from here on, where they are known; whether a read has failed, and whether an odd number of them has
pub record Input : Type 0 where
  pub left : Option (List ℕ)
  pub failed : Bool
  pub turned : Bool

-- a sink: the bytes that were written so far, where they are known, and whether a write has failed
pub record Output : Type 0 where
  pub written : Option (List ℕ)
  pub failed : Bool

-- what is known of something that is lent to a call, before the call and after it
pub record Lent (A : Type 0) : Type 0 where
  pub before : A
  pub after : A

-- before the call it is known to be this, and after it that
abbrev pub lent : {A : Type 0} → A → A → Lent A
lent before after = record { before = before; after = after }

-- what each source has left
abbrev pub each_left : List Input → List (Option (List ℕ))
each_left inputs = map (λ (input : Input). input.left) inputs

-- whether each source has failed
abbrev pub each_failed : List Input → List Bool
each_failed inputs = map (λ (input : Input). input.failed) inputs

-- a mark that a call turns where it fails, and else leaves
abbrev pub turned_by : Bool → Bool → Bool
turned_by fails mark = if fails then not mark else mark

-- ---- a source that may give other bytes than was foreseen: what it has left is known no more from then on

-- the foreseen bytes begin with these, and lose them, or are known no more
abbrev pub MayConsume : Option (List ℕ) → Option (List ℕ) → List ℕ → Type 0
MayConsume None None bytes = ⊤
MayConsume None (Some rest) bytes = ⊥
MayConsume (Some left) None bytes = ⊤
MayConsume (Some left) (Some rest) bytes = left ≡ bytes ++ rest

-- what a read takes of them
abbrev pub MayGive : {E : Type 0} → Option (List ℕ) → Option (List ℕ) → Result ℕ E → List ℕ → Type 0
MayGive old new r buffer = MatchResult r (λ n. MayConsume old new (take n buffer) × (n ≡ 0 → 0 < length buffer → IsAtEnd new)) (λ _. MayConsume old new [])

-- the bytes that were left before, where what is left after is still known
abbrev pub foretold : Option (List ℕ) → Option (List ℕ) → Option (List ℕ)
foretold before None = None
foretold before (Some rest) = before

abbrev pub each_foretold : List Input → List Input → List (Option (List ℕ))
each_foretold [] afters = []
each_foretold (before ∷ befores) [] = []
each_foretold (before ∷ befores) (after ∷ afters) = foretold before.left after.left ∷ each_foretold befores afters
