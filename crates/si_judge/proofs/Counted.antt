-- How often something stands in a list.
use Rattle.std.proofs.Common.{◌≡◌, ◌∙◌, inl, inr, ℕ, zero, suc, ◌+◌, ◌<◌, ◌≤◌, Bool, true, false, cond, List, [], ◌∷◌, Ordering, refl, sym, ap, subst, arith, count_by}
use Rattle.std.specs.List.{Contains}
use Rattle.std.specs.List.Sorted.{IsStrictlySortedBy}
use Rattle.std.specs.Cmp.{IsTotalOrder}
use Rattle.std.specs.declared.cmp.Ordering.TheVariants.{Less, Equal}
use Rattle.std.proofs.lemmas.Cmp.{tied_itself}
use Rattle.std.proofs.lemmas.List.Sums.{sum_by-cons}
use Rattle.si_lists.proofs.Members.{Contains-cons_cases, Contains-nil, at_each, here, there}
use Rattle.si_model.proofs.InOrder.{below_rest, rest_sorted}

-- 1 where it is so
abbrev pub one_if : Bool → ℕ
one_if b = cond b 1 0

module _ {X : Type 0} {E : X → X → Bool} (exact : (x y : X) → E x y ≡ true → x ≡ y) (self : (x : X) → E x x ≡ true) where
  pub counted_cons : (x y : X) (ys : List X) → count_by (E x) (y ∷ ys) ≡ one_if (E x y) + count_by (E x) ys
  counted_cons x y ys = sum_by-cons (λ z. cond (E x z) 1 0) y ys

  -- what is counted is there
  pub counted_there : (x : X) (ys : List X) → 0 < count_by (E x) ys → Contains ys x
  counted_there x [] lt = absurd (omega (arith, lt))
  counted_there x (y ∷ ys) lt = by (E x y) refl (counted_there x ys)
    where
      by : (b : Bool) → E x y ≡ b → (0 < count_by (E x) ys → Contains ys x) → Contains (y ∷ ys) x
      by true e rest = subst (Contains (y ∷ ys)) (sym (exact x y e)) (here y ys)
      by false e rest = there y ys x (rest (let n : one_if (E x y) ≡ 0 = ap one_if e in omega (arith, lt, counted_cons x y ys, n)))

  -- what is there is counted
  pub there_counted : (x : X) (ys : List X) → Contains ys x → 0 < count_by (E x) ys
  there_counted x [] c = absurd (Contains-nil x c)
  there_counted x (y ∷ ys) c = elim (Contains-cons_cases y ys x c) [
    | inl e ↦ (let n : one_if (E x y) ≡ 1 = ap one_if (ap (E x) e ∙ self x) in omega (arith, counted_cons x y ys, n))
    | inr d ↦ omega (arith, counted_cons x y ys, there_counted x ys d)
  ]

  pub none_counted : (x : X) (ys : List X) → (Contains ys x → ⊥) → count_by (E x) ys ≡ 0
  none_counted x ys none = by (count_by (E x) ys) refl
    where
      by : (n : ℕ) → count_by (E x) ys ≡ n → count_by (E x) ys ≡ 0
      by zero e = e
      by (suc n) e = absurd (none (counted_there x ys (omega (arith, e))))

  -- in a list in strict order nothing stands twice
  pub counted_once : {R : X → X → Ordering} → IsTotalOrder R → (x : X) (ys : List X) → IsStrictlySortedBy R ys → count_by (E x) ys ≤ 1
  counted_once o x [] s = omega arith
  counted_once {R = R} o x (y ∷ ys) s = by (E x y) refl (counted_once o x ys (rest_sorted R y ys s))
    where
      absent : E x y ≡ true → Contains ys x → ⊥
      absent e c = unequal (sym (at_each (λ z. R y z ≡ Less) ys x (below_rest R y ys s) c) ∙ ap (R y) (exact x y e) ∙ tied_itself o y)
        where
          unequal : Less ≡ Equal → ⊥
          unequal e = cc

      by : (b : Bool) → E x y ≡ b → count_by (E x) ys ≤ 1 → count_by (E x) (y ∷ ys) ≤ 1
      by true e rest = let n : one_if (E x y) ≡ 1 = ap one_if e in omega (arith, n, counted_cons x y ys, none_counted x ys (absent e))
      by false e rest = let n : one_if (E x y) ≡ 0 = ap one_if e in omega (arith, n, counted_cons x y ys, rest)

-- two counts of which neither is more than one are the same where both count something or neither does
pub same_counts : (m n : ℕ) → m ≤ 1 → n ≤ 1 → (0 < m → 0 < n) → (0 < n → 0 < m) → m ≡ n
same_counts zero zero p q f g = refl
same_counts zero (suc n) p q f g = absurd (omega (arith, g (omega arith)))
same_counts (suc m) zero p q f g = absurd (omega (arith, f (omega arith)))
same_counts (suc m) (suc n) p q f g = omega (arith, p, q)
