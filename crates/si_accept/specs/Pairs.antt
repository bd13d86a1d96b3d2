-- The writers of one key's values.
use Rattle.std.specs.Prelude.{ℕ, List, [], ◌∷◌}
use Rattle.si_accept.specs.declared.pairs.PairForm.{PairForm}
use Rattle.si_accept.specs.declared.pairs.PairForm.TheVariants.{Empty, One, Many}

abbrev pub one_pair : ℕ × ℕ → List (ℕ × ℕ)
one_pair p = p ∷ []

-- values with their writers, in the order of the values
abbrev pub pairs_in : PairForm → List (ℕ × ℕ)
pairs_in Empty = []
pairs_in (One v u) = one_pair (v, u)
pairs_in (Many all) = all
