-- Sums, counts and tests that agree at each element of a list.
use Rattle.std.proofs.Common.{◌≡◌, ℕ, ◌+◌, Bool, true, false, ◌&&◌, ◌||◌, cond, List, [], ◌∷◌, ap, refl, ◌∙◌, arith}
use Rattle.std.specs.List.{Contains, count_by, sum_by, list_any}
use Rattle.std.proofs.lemmas.List.Sums.{sum_by-cons}
use Rattle.si_lists.proofs.Members.{here, there}
use Rattle.si_chances.proofs.Walking.{count_none}

module _ {X : Type 0} where
  pub sums_agree : (f g : X → ℕ) (xs : List X) → ((x : X) → Contains xs x → f x ≡ g x) → sum_by f xs ≡ sum_by g xs
  sums_agree f g [] same = refl
  sums_agree f g (x ∷ xs) same =
      let head = same x (here x xs) in
      let tail = sums_agree f g xs (λ y c. same y (there x xs y c)) in
      omega (arith, sum_by-cons f x xs, sum_by-cons g x xs, head, tail)

  pub counts_agree : (p q : X → Bool) (xs : List X) → ((x : X) → Contains xs x → p x ≡ q x) → count_by p xs ≡ count_by q xs
  counts_agree p q xs same = sums_agree (λ x. cond (p x) 1 0) (λ x. cond (q x) 1 0) xs (λ x c. ap (λ b. cond b 1 0) (same x c))

  pub anys_agree : (p q : X → Bool) (xs : List X) → ((x : X) → Contains xs x → p x ≡ q x) → list_any p xs ≡ list_any q xs
  anys_agree p q [] same = refl
  anys_agree p q (x ∷ xs) same = ap (λ b. b || list_any p xs) (same x (here x xs)) ∙ ap (λ b. q x || b) (anys_agree p q xs (λ y c. same y (there x xs y c)))

  -- what two sums have at each element makes the third one
  pub sums_add : (f g h : X → ℕ) (xs : List X) → ((x : X) → Contains xs x → f x + g x ≡ h x) → sum_by f xs + sum_by g xs ≡ sum_by h xs
  sums_add f g h [] same = refl
  sums_add f g h (x ∷ xs) same =
      let head = same x (here x xs) in
      let tail = sums_add f g h xs (λ y c. same y (there x xs y c)) in
      omega (arith, sum_by-cons f x xs, sum_by-cons g x xs, sum_by-cons h x xs, head, tail)

  -- under a test that doesn't depend on the element
  pub count_under : (p : X → Bool) (b : Bool) (xs : List X) → count_by (λ x. p x && b) xs ≡ cond b (count_by p xs) 0
  count_under p true xs = counts_agree (λ x. p x && true) p xs (λ x c. and_true (p x))
    where
      and_true : (b : Bool) → (b && true) ≡ b
      and_true true = refl
      and_true false = refl
  count_under p false xs = count_none (λ x. p x && false) xs (λ x. and_false (p x))
    where
      and_false : (b : Bool) → (b && false) ≡ false
      and_false true = refl
      and_false false = refl
