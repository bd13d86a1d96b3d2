-- What a map, read as a function, holds after many edits.
use Rattle.std.proofs.Common.{◌≡◌, ◌≢◌, ◌∙◌, ◌⊎◌, inl, inr, ◌↔◌, Bool, true, false, cond, List, [], ◌∷◌, Option, refl, sym, ap, true≢false}
use Rattle.std.specs.List.{Contains, fold}
use Rattle.std.specs.Map.{update}
use Rattle.si_lists.proofs.Members.{Contains-nil, here, there, Contains-cons_cases}

module _ {K V X : Type 0} (same : K → K → Bool) (decides : (a b : K) → (same a b ≡ true) ↔ (a ≡ b)) (key : X → K) (value : X → Option V) where
  abbrev pub step : (K → Option V) → X → K → Option V
  step f x = update same f (key x) (value x)

  pub step_other : (f : K → Option V) (x : X) (q : K) → key x ≢ q → step f x q ≡ f q
  step_other f x q other = by (same (key x) q) refl
    where
      by : (b : Bool) → same (key x) q ≡ b → cond b (value x) (f q) ≡ f q
      by true e = absurd (other ((decides (key x) q).0 e))
      by false e = refl

  pub step_there : (f : K → Option V) (x : X) (q : K) → key x ≡ q → step f x q ≡ value x
  step_there f x q e = ap (λ b. cond b (value x) (f q)) ((decides (key x) q).1 e)

  -- what stands under no key of theirs is as it was
  pub others_stay : (xs : List X) (f : K → Option V) (q : K) → ((x : X) → Contains xs x → key x ≢ q) → fold step f xs q ≡ f q
  others_stay [] f q none = refl
  others_stay (x ∷ xs) f q none = others_stay xs (step f x) q (λ y c. none y (there x xs y c)) ∙ step_other f x q (none x (here x xs))

  -- whether a key is one of theirs
  pub key_or_not : (xs : List X) (q : K) → ((x : X) × Contains xs x × (key x ≡ q)) ⊎ ((x : X) → Contains xs x → key x ≢ q)
  key_or_not [] q = inr (λ x c. absurd (Contains-nil x c))
  key_or_not (x ∷ xs) q = by (same (key x) q) refl (key_or_not xs q)
    where
      by : (b : Bool) → same (key x) q ≡ b → ((y : X) × Contains xs y × (key y ≡ q)) ⊎ ((y : X) → Contains xs y → key y ≢ q)
          → ((y : X) × Contains (x ∷ xs) y × (key y ≡ q)) ⊎ ((y : X) → Contains (x ∷ xs) y → key y ≢ q)
      by true e rest = inl (x, here x xs, (decides (key x) q).0 e)
      by false e (inl h) = inl (h.0, there x xs h.0 h.1, h.2)
      by false e (inr none) = inr (λ y c same_key. elim (Contains-cons_cases x xs y c) [
        | inl is ↦ true≢false (sym ((decides (key x) q).1 (ap key is ∙ same_key)) ∙ e)
        | inr d ↦ none y d same_key
      ])

  -- under a key of theirs stands the value of those that have it, where it is one
  pub value_stands : (xs : List X) (f : K → Option V) (q : K) (w : Option V) → (x : X) → Contains xs x → key x ≡ q
      → ((y : X) → Contains xs y → key y ≡ q → value y ≡ w) → fold step f xs q ≡ w
  value_stands [] f q w x c e one = absurd (Contains-nil x c)
  value_stands (z ∷ xs) f q w x c e one = by (key_or_not xs q) (λ y d s. value_stands xs (step f z) q w y d s (λ a b. one a (there z xs a b)))
    where
      by : ((y : X) × Contains xs y × (key y ≡ q)) ⊎ ((y : X) → Contains xs y → key y ≢ q) → ((y : X) → Contains xs y → key y ≡ q → fold step (step f z) xs q ≡ w)
          → fold step (step f z) xs q ≡ w
      by (inl h) later = later h.0 h.1 h.2
      by (inr none) later = elim (Contains-cons_cases z xs x c) [
        | inl is ↦ (let at : key z ≡ q = ap key is ∙ e in others_stay xs (step f z) q none ∙ step_there f z q at ∙ one z (here z xs) at)
        | inr d ↦ absurd (none x d e)
      ]
