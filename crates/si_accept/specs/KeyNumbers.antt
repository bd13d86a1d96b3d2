-- Keys, numbered in the order in which they were first seen, from 0.
use Rattle.std.specs.Prelude.{ℕ, List, [], ◌∷◌, ◌++◌, if◌then◌else◌, Option}
use Rattle.std.specs.List.{list_any, position}
use Rattle.si_model.specs.Operations.{same_key}

-- the number of the key, if it has one
abbrev pub number_of : List (List ℕ) → List ℕ → Option ℕ
number_of K x = position (same_key x) K

-- the keys, where x has a number too
abbrev pub with_key : List (List ℕ) → List ℕ → List (List ℕ)
with_key K x = if list_any (same_key x) K then K else K ++ x ∷ []
