-- A walk over a list in strict order: what is searched for in it stands where the walk has passed all that comes before, or nowhere.
use Rattle.std.proofs.Common.{◌≡◌, ◌≢◌, ℕ, zero, suc, ◌+◌, ◌<◌, ◌≤◌, Bool, true, false, ◌||◌, List, [], ◌∷◌, length, get_or, take, All, refl, sym, ap, ◌∙◌, arith}
use Rattle.std.specs.Prelude.{slice_get}
use Rattle.std.specs.List.{AllByRecursion, AllWithin, HoldsAt, list_any}
use Rattle.std.specs.List.Sorted.{IsStrictlySortedBy}
use Rattle.std.specs.Option.{IfSome, option_map_or}
use Rattle.std.specs.declared.cmp.Ordering.{Ordering}
use Rattle.std.specs.declared.cmp.Ordering.TheVariants.{Less, Equal, Greater}
use Rattle.std.specs.Ordering.{ordering_reverse, is_eq, eq_by_cmp}
use Rattle.std.specs.Cmp.{IsTotalOrder}
use Rattle.std.proofs.lemmas.List.Elements.{All-weaker, recursion_from_All}
use Rattle.std.proofs.lemmas.Map.Keys.{Less-from_sorted}
use Rattle.si_model.proofs.InOrder.{below_rest, rest_sorted}

or_false : (b : Bool) → (b || false) ≡ b
or_false true = refl
or_false false = refl

weaker : {K : Type 0} (P Q : K → Type 0) (xs : List K) → ((x : K) → P x → Q x) → AllByRecursion P xs → AllByRecursion Q xs
weaker P Q [] f a = tt
weaker P Q (y ∷ xs) f a = (f y a.0, weaker P Q xs f a.1)

-- nothing stands behind the end
pub past_end : {X : Type 0} (P : X → Type 0) (xs : List X) (n : ℕ) → length xs ≤ n → IfSome (slice_get xs n) P
past_end P [] zero le = tt
past_end P [] (suc n) le = tt
past_end P (x ∷ xs) zero le = absurd (omega arith)
past_end P (x ∷ xs) (suc n) le = past_end P xs n (omega arith)

module _ {K : Type 0} {R : K → K → Ordering} (o : IsTotalOrder R) {E : K → K → Bool} (ties : (x y : K) → E x y ≡ eq_by_cmp R x y) where
  flipped : (x y : K) → R x y ≡ Greater → R y x ≡ Less
  flipped x y e = o.antisymm y x ∙ ap ordering_reverse e

  -- none that comes behind f is f
  none_behind : (f : K) (ys : List K) → AllByRecursion (λ y. R f y ≡ Less) ys → list_any (E f) ys ≡ false
  none_behind f [] a = refl
  none_behind f (y ∷ ys) a = ap (λ b. b || list_any (E f) ys) (ties f y ∙ ap is_eq a.0) ∙ none_behind f ys a.1

  behind : (f x : K) (xs : List K) → AllByRecursion (λ y. R x y ≡ Less) xs → R x f ≢ Less → AllByRecursion (λ y. R f y ≡ Less) xs
  behind f x xs a here = by (R x f) refl
    where
      by : (r : Ordering) → R x f ≡ r → AllByRecursion (λ y. R f y ≡ Less) xs
      by Less e = absurd (here e)
      by Equal e = weaker (λ y. R x y ≡ Less) (λ y. R f y ≡ Less) xs (λ y l. sym (o.congr x f y e) ∙ l) a
      by Greater e = weaker (λ y. R x y ≡ Less) (λ y. R f y ≡ Less) xs (λ y l. o.trans f x y (flipped x f e) l) a

  found : (f : K) (p : ℕ) (xs : List K) → IsStrictlySortedBy R xs → AllByRecursion (λ x. R x f ≡ Less) (take p xs) → IfSome (slice_get xs p) (λ x. R x f ≢ Less)
      → list_any (E f) xs ≡ option_map_or (E f) (slice_get xs p) false
  found f zero [] s before here = refl
  found f (suc p) [] s before here = refl
  found f zero (x ∷ xs) s before here = ap (λ b. E f x || b) (none_behind f xs (behind f x xs (below_rest R x xs s) here)) ∙ or_false (E f x)
  found f (suc p) (x ∷ xs) s before here =
      ap (λ b. b || list_any (E f) xs) (ties f x ∙ ap is_eq (o.antisymm f x ∙ ap ordering_reverse before.0)) ∙ found f p xs (rest_sorted R x xs s) before.1 here

  -- what stands at the place, where the walk for f has passed all before
  pub is_there : (f : K) (p : ℕ) (xs : List K) → IsStrictlySortedBy R xs → All (λ x. R x f ≡ Less) (take p xs) → IfSome (slice_get xs p) (λ x. R x f ≢ Less)
      → list_any (E f) xs ≡ option_map_or (E f) (slice_get xs p) false
  is_there f p xs s before here = found f p xs s (recursion_from_All (λ x. R x f ≡ Less) (take p xs) before) here

  -- what was passed for one is passed for all behind it
  pub passed_on : (fs others : List K) (i p : ℕ) → IsStrictlySortedBy R fs → i < length fs → HoldsAt (λ f. All (λ x. R x f ≡ Less) (take p others)) fs i
      → AllWithin (λ f. All (λ x. R x f ≡ Less) (take p others)) fs (i + 1) (length fs)
  passed_on fs others i p s here before = λ j d low below.
      All-weaker (λ x. R x (get_or fs i d) ≡ Less) (λ x. R x (get_or fs j d) ≡ Less)
      (λ x l. o.trans x (get_or fs i d) (get_or fs j d) l (Less-from_sorted R fs i j d s (omega arith) below))
      (take p others) (before d)
