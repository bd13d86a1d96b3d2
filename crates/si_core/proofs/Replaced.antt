-- A list with another element at one place.
use Rattle.std.proofs.Common.{◌≡◌, ℕ, zero, suc, List, [], ◌∷◌, Some, refl, ap, slice_get}
use Rattle.std.proofs.Math.ListN.{set}

pub set_other : {X : Type 0} (S : List X) (k j : ℕ) (x : X) → (j ≡ k → ⊥) → slice_get (set S k x) j ≡ slice_get S j
set_other [] k j x d = refl
set_other (y ∷ S) zero zero x d = absurd (d refl)
set_other (y ∷ S) zero (suc j) x d = refl
set_other (y ∷ S) (suc k) zero x d = refl
set_other (y ∷ S) (suc k) (suc j) x d = set_other S k j x (λ e. d (ap suc e))

pub set_same : {X : Type 0} (S : List X) (k : ℕ) (x o : X) → slice_get S k ≡ Some o → slice_get (set S k x) k ≡ Some x
set_same [] k x o e = cc
set_same (y ∷ S) zero x o e = refl
set_same (y ∷ S) (suc k) x o e = set_same S k x o e
