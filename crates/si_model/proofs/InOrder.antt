-- The list in order: it is in strict order, it has the same elements, and no other list has both.
use Rattle.std.proofs.Common.{◌≡◌, ◌⊎◌, inl, inr, Bool, true, List, [], ◌∷◌, refl, sym, ap, subst, ◌∙◌}
use Rattle.std.specs.List.{Contains, AllByRecursion, dedup}
use Rattle.std.specs.List.Sorted.{IsStrictlySortedBy, IsPermutation, IsSorted}
use Rattle.std.specs.declared.cmp.Ordering.{Ordering}
use Rattle.std.specs.declared.cmp.Ordering.TheVariants.{Less, Equal, Greater}
use Rattle.std.specs.Ordering.{ordering_reverse, is_eq, eq_by_cmp}
use Rattle.std.specs.Cmp.{IsTotalOrder, IsEquivalence}
use Rattle.std.proofs.lemmas.Cmp.{tied_itself}
use Rattle.std.proofs.lemmas.List.Kept.{IsStrictlySortedBy-dedup, Contains-dedup, Contains-from_dedup}
use Rattle.std.proofs.lemmas.List.Sorted.{Contains-permutation, IsPermutation-sym}
use Rattle.si_model.specs.Order.{by_order, with_one, in_order}
use Rattle.si_lists.proofs.Members.{Contains-nil, here, there, Contains-cons_cases, at_each}

weaker : {K : Type 0} (P Q : K → Type 0) (xs : List K) → ((x : K) → P x → Q x) → AllByRecursion P xs → AllByRecursion Q xs
weaker P Q [] f a = tt
weaker P Q (y ∷ xs) f a = (f y a.0, weaker P Q xs f a.1)

-- the head is below all, and the rest in order
pub below_rest : {K : Type 0} (R : K → K → Ordering) (x : K) (xs : List K) → IsStrictlySortedBy R (x ∷ xs) → AllByRecursion (λ y. R x y ≡ Less) xs
unfolding IsStrictlySortedBy
below_rest R x xs s = s.0

pub rest_sorted : {K : Type 0} (R : K → K → Ordering) (x : K) (xs : List K) → IsStrictlySortedBy R (x ∷ xs) → IsStrictlySortedBy R xs
unfolding IsStrictlySortedBy
rest_sorted R x xs s = s.1

pub sorted-cons : {K : Type 0} (R : K → K → Ordering) (x : K) (xs : List K) → AllByRecursion (λ y. R x y ≡ Less) xs → IsStrictlySortedBy R xs → IsStrictlySortedBy R (x ∷ xs)
unfolding IsStrictlySortedBy
sorted-cons R x xs b s = (b, s)

pub sorted-nil : {K : Type 0} (R : K → K → Ordering) → IsStrictlySortedBy R []
unfolding IsStrictlySortedBy
sorted-nil R = tt

module _ {K : Type 0} {R : K → K → Ordering} (o : IsTotalOrder R) where
  flipped : (x y : K) → R x y ≡ Greater → R y x ≡ Less
  flipped x y e = o.antisymm y x ∙ ap ordering_reverse e

  below_with_one : (k x : K) (xs : List K) → R x k ≡ Less → AllByRecursion (λ y. R x y ≡ Less) xs → AllByRecursion (λ y. R x y ≡ Less) (with_one R k xs)
  below_with_one k x [] e a = (e, tt)
  below_with_one k x (z ∷ xs) e a = elim (R k z) as (λ r. AllByRecursion (λ y. R x y ≡ Less) (by_order r (k ∷ z ∷ xs) (z ∷ xs) (z ∷ with_one R k xs))) [
    | Less ↦ (e, a)
    | Equal ↦ a
    | Greater ↦ (a.0, below_with_one k x xs e a.1)
  ]

  sorted-with_one : (k : K) (xs : List K) → IsStrictlySortedBy R xs → IsStrictlySortedBy R (with_one R k xs)
  sorted-with_one k [] s = sorted-cons R k [] tt s
  sorted-with_one k (x ∷ xs) s = elim (R k x) as (λ r. R k x ≡ r → IsStrictlySortedBy R (by_order r (k ∷ x ∷ xs) (x ∷ xs) (x ∷ with_one R k xs))) [
    | Less ↦ λ e. sorted-cons R k (x ∷ xs) (e, weaker (λ y. R x y ≡ Less) (λ y. R k y ≡ Less) xs (λ y l. o.trans k x y e l) (below_rest R x xs s)) s
    | Equal ↦ λ e. s
    | Greater ↦ λ e. sorted-cons R x (with_one R k xs) (below_with_one k x xs (flipped k x e) (below_rest R x xs s)) (sorted-with_one k xs (rest_sorted R x xs s))
  ] refl

  pub sorted-in_order : (xs : List K) → IsStrictlySortedBy R (in_order R xs)
  unfolding in_order
  sorted-in_order [] = sorted-nil R
  sorted-in_order (x ∷ xs) = sorted-with_one x (in_order R xs) (sorted-in_order xs)

  not_below_itself : (x : K) → R x x ≡ Less → ⊥
  not_below_itself x e = cc (tied_itself o x)

  Contains-from_with_one : (k : K) (xs : List K) (y : K) → Contains (with_one R k xs) y → (k ≡ y) ⊎ Contains xs y
  Contains-from_with_one k [] y c = Contains-cons_cases k [] y c
  Contains-from_with_one k (x ∷ xs) y c = elim (R k x) as (λ r. Contains (by_order r (k ∷ x ∷ xs) (x ∷ xs) (x ∷ with_one R k xs)) y → (k ≡ y) ⊎ Contains (x ∷ xs) y) [
    | Less ↦ λ d. Contains-cons_cases k (x ∷ xs) y d
    | Equal ↦ λ d. inr d
    | Greater ↦ λ d. elim (Contains-cons_cases x (with_one R k xs) y d) [
      | inl e ↦ inr (subst (λ w. Contains (x ∷ xs) w) e (here x xs))
      | inr d ↦ elim (Contains-from_with_one k xs y d) [ inl e ↦ inl e | inr f ↦ inr (there x xs y f) ]
    ]
  ] c

  -- the list in order has no element of its own
  pub Contains-from_in_order : (xs : List K) (y : K) → Contains (in_order R xs) y → Contains xs y
  unfolding in_order
  Contains-from_in_order [] y c = c
  Contains-from_in_order (x ∷ xs) y c = elim (Contains-from_with_one x (in_order R xs) y c) [
    | inl e ↦ subst (λ w. Contains (x ∷ xs) w) e (here x xs)
    | inr d ↦ there x xs y (Contains-from_in_order xs y d)
  ]

  module _ (exact : (a b : K) → R a b ≡ Equal → a ≡ b) where
    Contains-with_one : (k : K) (xs : List K) → Contains (with_one R k xs) k
    Contains-with_one k [] = here k []
    Contains-with_one k (x ∷ xs) = elim (R k x) as (λ r. R k x ≡ r → Contains (by_order r (k ∷ x ∷ xs) (x ∷ xs) (x ∷ with_one R k xs)) k) [
      | Less ↦ λ e. here k (x ∷ xs)
      | Equal ↦ λ e. subst (λ w. Contains (x ∷ xs) w) (sym (exact k x e)) (here x xs)
      | Greater ↦ λ e. there x (with_one R k xs) k (Contains-with_one k xs)
    ] refl

    Contains-with_one_more : (k : K) (xs : List K) (y : K) → Contains xs y → Contains (with_one R k xs) y
    Contains-with_one_more k [] y c = absurd (Contains-nil y c)
    Contains-with_one_more k (x ∷ xs) y c = elim (R k x) as (λ r. Contains (by_order r (k ∷ x ∷ xs) (x ∷ xs) (x ∷ with_one R k xs)) y) [
      | Less ↦ there k (x ∷ xs) y c
      | Equal ↦ c
      | Greater ↦ elim (Contains-cons_cases x xs y c) [
        | inl e ↦ subst (λ w. Contains (x ∷ with_one R k xs) w) e (here x (with_one R k xs))
        | inr d ↦ there x (with_one R k xs) y (Contains-with_one_more k xs y d)
      ]
    ]

    -- the list in order has each element
    pub Contains-in_order : (xs : List K) (y : K) → Contains xs y → Contains (in_order R xs) y
    unfolding in_order
    Contains-in_order [] y c = c
    Contains-in_order (x ∷ xs) y c = elim (Contains-cons_cases x xs y c) [
      | inl e ↦ subst (λ w. Contains (with_one R x (in_order R xs)) w) e (Contains-with_one x (in_order R xs))
      | inr d ↦ Contains-with_one_more x (in_order R xs) y (Contains-in_order xs y d)
    ]

  -- the heads of two such lists with the same elements are one
  same_head : (x y : K) (xs ys : List K) → IsStrictlySortedBy R (x ∷ xs) → IsStrictlySortedBy R (y ∷ ys) → Contains (y ∷ ys) x → Contains (x ∷ xs) y → x ≡ y
  same_head x y xs ys s t c d = elim (Contains-cons_cases y ys x c) [
    | inl e ↦ sym e
    | inr f ↦ elim (Contains-cons_cases x xs y d) [
      | inl e ↦ e
      | inr g ↦ absurd (not_below_itself x (o.trans x y x (at_each (λ z. R x z ≡ Less) xs y (below_rest R x xs s) g) (at_each (λ z. R y z ≡ Less) ys x (below_rest R y ys t) f)))
    ]
  ]

  -- an element of the rest isn't the head
  in_rest : (x y : K) (xs : List K) → AllByRecursion (λ z. R x z ≡ Less) xs → Contains xs y → x ≡ y → ⊥
  in_rest x y xs b c e = not_below_itself x (subst (λ w. R x w ≡ Less) (sym e) (at_each (λ z. R x z ≡ Less) xs y b c))

  rest_has : (x z : K) (xs ys : List K) → AllByRecursion (λ w. R x w ≡ Less) xs → Contains xs z → Contains (x ∷ ys) z → Contains ys z
  rest_has x z xs ys b c d = elim (Contains-cons_cases x ys z d) [ inl e ↦ absurd (in_rest x z xs b c e) | inr f ↦ f ]

  -- two lists in strict order with the same elements are one
  pub same_sorted : (xs ys : List K) → IsStrictlySortedBy R xs → IsStrictlySortedBy R ys → ((z : K) → Contains xs z → Contains ys z) → ((z : K) → Contains ys z → Contains xs z) → xs ≡ ys
  same_sorted [] [] s t f g = refl
  same_sorted [] (y ∷ ys) s t f g = absurd (Contains-nil y (g y (here y ys)))
  same_sorted (x ∷ xs) [] s t f g = absurd (Contains-nil x (f x (here x xs)))
  same_sorted (x ∷ xs) (y ∷ ys) s t f g =
      let e = same_head x y xs ys s t (f x (here x xs)) (g y (here y ys)) in
      let bx = below_rest R x xs s in
      let by : AllByRecursion (λ w. R x w ≡ Less) ys = subst (λ v. AllByRecursion (λ w. R v w ≡ Less) ys) (sym e) (below_rest R y ys t) in
      let rest = same_sorted xs ys (rest_sorted R x xs s) (rest_sorted R y ys t)
      (λ z c. rest_has x z xs ys bx c (subst (λ v. Contains (v ∷ ys) z) (sym e) (f z (there x xs z c))))
      (λ z c. rest_has x z ys xs by c (g z (there y ys z c))) in
      λ i. e i ∷ rest i

-- what a sort and then `dedup` leave is the list in order
equal_from_test : (r : Ordering) → is_eq r ≡ true → r ≡ Equal
equal_from_test Less e = cc
equal_from_test Equal e = refl
equal_from_test Greater e = cc

pub dedup-in_order : {K : Type 0} {R : K → K → Ordering} {E : K → K → Bool} → IsTotalOrder R → IsEquivalence E → ((x y : K) → E x y ≡ eq_by_cmp R x y) → ((x y : K) → R x y ≡ Equal → x ≡ y) → (xs sorted : List K) → IsPermutation xs sorted → IsSorted R sorted → dedup E sorted ≡ in_order R xs
dedup-in_order {R = R} {E = E} o laws ties exact xs sorted moved up =
    same_sorted o (dedup E sorted) (in_order R xs) (IsStrictlySortedBy-dedup o ties sorted up) (sorted-in_order o xs)
    (λ z c. Contains-in_order o exact xs z (Contains-permutation sorted xs z (IsPermutation-sym xs sorted moved) (Contains-from_dedup E sorted z c)))
    (λ z c. Contains-dedup laws (λ x y e. exact x y (equal_from_test (R x y) (sym (ties x y) ∙ e))) sorted z (Contains-permutation xs sorted z moved (Contains-from_in_order o xs z c)))
