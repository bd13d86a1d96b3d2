-- Where the elements of a list that pass a test stand among those that pass.
use Rattle.std.proofs.Common.{◌≡◌, ℕ, ◌<◌, Bool, true, false, zero, suc, List, [], ◌∷◌, Some, refl, sym, ap, ◌∙◌, arith, cond, length, take, slice_get}
use Rattle.std.specs.List.{filter}
use Rattle.si_lists.proofs.Members.{same_some}

module _ {X : Type 0} (q : X → Bool) where
  -- so many of the first i elements pass
  abbrev pub rank : List X → ℕ → ℕ
  rank xs i = length (filter q (take i xs))

  pub at_rank : (xs : List X) (i : ℕ) (x : X) → slice_get xs i ≡ Some x → q x ≡ true → slice_get (filter q xs) (rank xs i) ≡ Some x
  at_rank [] i x e t = cc
  at_rank (z ∷ xs) zero x e t = by (q z) (ap q (same_some e) ∙ t)
    where
      by : (b : Bool) → b ≡ true → slice_get (cond b (z ∷ filter q xs) (filter q xs)) 0 ≡ Some x
      by true f = e
      by false f = cc
  at_rank (z ∷ xs) (suc i) x e t = by (q z) (at_rank xs i x e t)
    where
      by : (b : Bool) → slice_get (filter q xs) (rank xs i) ≡ Some x
          → slice_get (cond b (z ∷ filter q xs) (filter q xs)) (length (cond b (z ∷ filter q (take i xs)) (filter q (take i xs)))) ≡ Some x
      by true rest = rest
      by false rest = rest

  pub from_rank : (xs : List X) (j : ℕ) (x : X) → slice_get (filter q xs) j ≡ Some x → (i : ℕ) × (slice_get xs i ≡ Some x) × (j ≡ rank xs i) × (q x ≡ true)
  from_rank [] j x e = cc
  from_rank (z ∷ xs) j x e = by (q z) refl j e (from_rank xs)
    where
      by : (b : Bool) → q z ≡ b → (j : ℕ) → slice_get (cond b (z ∷ filter q xs) (filter q xs)) j ≡ Some x
          → ((k : ℕ) (y : X) → slice_get (filter q xs) k ≡ Some y → (i : ℕ) × (slice_get xs i ≡ Some y) × (k ≡ rank xs i) × (q y ≡ true))
          → (i : ℕ) × (slice_get (z ∷ xs) i ≡ Some x) × (j ≡ rank (z ∷ xs) i) × (q x ≡ true)
      by true t zero e more = (0, e, refl, ap q (sym (same_some e)) ∙ t)
      by true t (suc k) e more = let f = more k x e in (suc f.0, f.1, ap suc f.2 ∙ sym (ap (λ b. length (cond b (z ∷ filter q (take f.0 xs)) (filter q (take f.0 xs)))) t), f.3)
      by false t k e more = let f = more k x e in (suc f.0, f.1, f.2 ∙ sym (ap (λ b. length (cond b (z ∷ filter q (take f.0 xs)) (filter q (take f.0 xs)))) t), f.3)

  pub ranks_rise : (xs : List X) (i j : ℕ) (x : X) → slice_get xs i ≡ Some x → q x ≡ true → i < j → rank xs i < rank xs j
  ranks_rise [] i j x e t l = cc
  ranks_rise (z ∷ xs) i zero x e t l = absurd (omega arith)
  ranks_rise (z ∷ xs) zero (suc j) x e t l = by (q z) (ap q (same_some e) ∙ t)
    where
      by : (b : Bool) → b ≡ true → 0 < length (cond b (z ∷ filter q (take j xs)) (filter q (take j xs)))
      by true f = omega arith
      by false f = cc
  ranks_rise (z ∷ xs) (suc i) (suc j) x e t l = by (q z) (ranks_rise xs i j x e t (omega arith))
    where
      by : (b : Bool) → rank xs i < rank xs j
          → length (cond b (z ∷ filter q (take i xs)) (filter q (take i xs))) < length (cond b (z ∷ filter q (take j xs)) (filter q (take j xs)))
      by true less = omega (arith, less)
      by false less = less
