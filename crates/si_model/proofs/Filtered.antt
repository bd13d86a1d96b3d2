-- The elements of a filtered list come from those of the list, in the same order.
use Rattle.std.proofs.Common.{◌≡◌, ℕ, ◌<◌, Bool, true, false, zero, suc, List, [], ◌∷◌, Some, refl, sym, ap, ◌∙◌, arith, cond, slice_get}
use Rattle.std.specs.List.{filter}
use Rattle.si_lists.proofs.Members.{same_some, Contains-filter, Contains-from_filter, get_contains, contains_get}

module _ {X : Type 0} (p : X → Bool) where
  -- x stands before y
  abbrev pub Before : List X → X → X → Type 0
  Before xs x y = (i : ℕ) × (j : ℕ) × (i < j) × (slice_get xs i ≡ Some x) × (slice_get xs j ≡ Some y)

  later : (z : X) (xs : List X) (x y : X) → Before xs x y → Before (z ∷ xs) x y
  later z xs x y b = (suc b.0, suc b.1, (let l = b.2 in omega arith), b.3, b.4)

  -- what stands before another in the filtered list does so in the list
  pub before_from : (xs : List X) (x y : X) (i j : ℕ) → i < j → slice_get (filter p xs) i ≡ Some x → slice_get (filter p xs) j ≡ Some y → Before xs x y
  before_from [] x y i j less e f = cc
  before_from (z ∷ xs) x y i j less e f = by (p z) (before_from xs x y) e f
    where
      head : ((i j : ℕ) → i < j → slice_get (filter p xs) i ≡ Some x → slice_get (filter p xs) j ≡ Some y → Before xs x y)
          → (i j : ℕ) → i < j → slice_get (z ∷ filter p xs) i ≡ Some x → slice_get (z ∷ filter p xs) j ≡ Some y → Before (z ∷ xs) x y
      head more i zero less e f = absurd (omega arith)
      head more zero (suc j) less e f = let r = contains_get xs y (Contains-from_filter p xs y (get_contains (filter p xs) j y f)).0 in (0, suc r.0, omega arith, e, r.1)
      head more (suc i) (suc j) less e f = later z xs x y (more i j (omega arith) e f)

      by : (b : Bool) → ((i j : ℕ) → i < j → slice_get (filter p xs) i ≡ Some x → slice_get (filter p xs) j ≡ Some y → Before xs x y)
          → slice_get (cond b (z ∷ filter p xs) (filter p xs)) i ≡ Some x → slice_get (cond b (z ∷ filter p xs) (filter p xs)) j ≡ Some y → Before (z ∷ xs) x y
      by true more e f = head more i j less e f
      by false more e f = later z xs x y (more i j less e f)

  -- and the other way round, where both pass
  pub before_to : (xs : List X) (x y : X) → p x ≡ true → p y ≡ true → (i j : ℕ) → i < j → slice_get xs i ≡ Some x → slice_get xs j ≡ Some y → Before (filter p xs) x y
  before_to [] x y a b i j less e f = cc
  before_to (z ∷ xs) x y a b i zero less e f = absurd (omega arith)
  before_to (z ∷ xs) x y a b zero (suc j) less e f = by (p z) refl
    where
      by : (t : Bool) → p z ≡ t → Before (cond t (z ∷ filter p xs) (filter p xs)) x y
      by true t = let r = contains_get (filter p xs) y (Contains-filter p xs y (get_contains xs j y f) b) in (0, suc r.0, omega arith, e, r.1)
      by false t = let wrong : true ≡ false = sym a ∙ ap p (sym (same_some e)) ∙ t in cc
  before_to (z ∷ xs) x y a b (suc i) (suc j) less e f = by (p z) (before_to xs x y a b i j (omega arith) e f)
    where
      by : (t : Bool) → Before (filter p xs) x y → Before (cond t (z ∷ filter p xs) (filter p xs)) x y
      by true more = later z (filter p xs) x y more
      by false more = more
