-- The entries between two bounds stand side by side.
use Rattle.std.proofs.Common.{◌≡◌, ◌∙◌, ℕ, zero, suc, ◌<◌, ◌≤◌, Bool, true, false, true≢false, cond, ◌&&◌, not, List, [], ◌∷◌, length, get_or, take, drop, sym, ap, ap₂, refl, subst, arith, inl, inr, Ordering, is_le, is_lt}
use Rattle.std.specs.BTreeMap.Range.{is_past_end}
use Rattle.std.specs.Cmp.{IsTotalOrder}
use Rattle.std.specs.List.{filter}
use Rattle.std.specs.List.Sorted.{IsStrictlySortedBy}
use Rattle.std.specs.Map.{keys_of}
use Rattle.std.specs.declared.cmp.Ordering.TheVariants.{Less, Equal, Greater}
use Rattle.std.specs.declared.ops.Bound.{Bound}
use Rattle.std.specs.declared.ops.Bound.TheVariants.{Included, Excluded, Unbounded}
use Rattle.std.proofs.lemmas.Bool.{cases_lt}
use Rattle.si_sorted.specs.Places.{IsCutAt, IsEndFrom}
use Rattle.si_sorted.proofs.Search.{less_at}

module _ {A : Type 0} (p : A → Bool) where
  skipped : (a : A) (xs : List A) → p a ≡ false → filter p (a ∷ xs) ≡ filter p xs
  skipped a xs e = ap (λ b. cond b (a ∷ filter p xs) (filter p xs)) e

  kept : (a : A) (xs : List A) → p a ≡ true → filter p (a ∷ xs) ≡ a ∷ filter p xs
  kept a xs e = ap (λ b. cond b (a ∷ filter p xs) (filter p xs)) e

  pub none_passes : (xs : List A) → ((j : ℕ) (d : A) → j < length xs → p (get_or xs j d) ≡ false) → [] ≡ filter p xs
  none_passes [] none = refl
  none_passes (a ∷ xs) none = none_passes xs (λ j d hi. none (suc j) d (omega (arith, hi))) ∙ sym (skipped a xs (none 0 a (omega arith)))

  -- those pass that stand from one place up to another
  pub part_passes : (xs : List A) (from to : ℕ) → from ≤ to → to ≤ length xs
      → ((j : ℕ) (d : A) → j < from → j < length xs → p (get_or xs j d) ≡ false)
      → ((j : ℕ) (d : A) → from ≤ j → j < to → p (get_or xs j d) ≡ true)
      → ((j : ℕ) (d : A) → to ≤ j → j < length xs → p (get_or xs j d) ≡ false)
      → drop from (take to xs) ≡ filter p xs
  part_passes [] zero zero le hi before inside behind = refl
  part_passes [] zero (suc to) le hi before inside behind = absurd (omega (arith, hi))
  part_passes [] (suc from) to le hi before inside behind = absurd (omega (arith, le, hi))
  part_passes (a ∷ xs) zero zero le hi before inside behind = none_passes (a ∷ xs) (λ j d lt. behind j d (omega arith) lt)
  part_passes (a ∷ xs) zero (suc to) le hi before inside behind =
      ap (λ l. a ∷ l) (part_passes xs zero to (omega arith) (omega (arith, hi)) (λ j d lt n. absurd (omega (arith, lt))) (λ j d ge lt. inside (suc j) d (omega arith) (omega (arith, lt))) (λ j d ge n. behind (suc j) d (omega (arith, ge)) (omega (arith, n))))
      ∙ sym (kept a xs (inside 0 a (omega arith) (omega arith)))
  part_passes (a ∷ xs) (suc from) zero le hi before inside behind = absurd (omega (arith, le))
  part_passes (a ∷ xs) (suc from) (suc to) le hi before inside behind =
      part_passes xs from to (omega (arith, le)) (omega (arith, hi)) (λ j d lt n. before (suc j) d (omega (arith, lt)) (omega (arith, n))) (λ j d ge lt. inside (suc j) d (omega (arith, ge)) (omega (arith, lt))) (λ j d ge n. behind (suc j) d (omega (arith, ge)) (omega (arith, n)))
      ∙ sym (skipped a xs (before 0 a (omega arith) (omega arith)))

both_fail : (a b : Bool) → a ≡ false → (a && not b) ≡ false
both_fail a b e = ap (λ c. c && not b) e

past_fails : (a b : Bool) → b ≡ true → (a && not b) ≡ false
past_fails true b e = ap not e
past_fails false b e = refl

inside_holds : (a b : Bool) → a ≡ true → b ≡ false → (a && not b) ≡ true
inside_holds a b e f = ap₂ (λ c d. c && not d) e f

-- nothing is behind all
pub none_behind : {K X : Type 0} (start past : K → Bool) (es : List (K × X)) (from : ℕ) → IsCutAt start es from → from ≡ length es → [] ≡ filter (λ (e : K × X). start e.0 && not (past e.0)) es
none_behind {K} {X} start past es from starts end = none_passes (λ (e : K × X). start e.0 && not (past e.0)) es (λ j d hi. both_fail _ _ (starts.fails j d (omega (arith, hi, end)) hi))

module _ {K X : Type 0} (start past : K → Bool) (es : List (K × X)) (from to : ℕ) (starts : IsCutAt start es from) (ends : IsCutAt past es to) where
  pub between_cuts : from ≤ to → drop from (take to es) ≡ filter (λ (e : K × X). start e.0 && not (past e.0)) es
  between_cuts le = part_passes (λ (e : K × X). start e.0 && not (past e.0)) es from to le ends.in_range
      (λ j d lt hi. both_fail _ _ (starts.fails j d lt hi))
      (λ j d ge lt. let hi : j < length es = omega (arith, lt, ends.in_range) in inside_holds _ _ (starts.holds j d ge hi) (ends.fails j d lt hi))
      (λ j d ge hi. past_fails _ _ (ends.holds j d ge hi))

  pub none_between : to ≤ from → [] ≡ filter (λ (e : K × X). start e.0 && not (past e.0)) es
  none_between ge = none_passes (λ (e : K × X). start e.0 && not (past e.0)) es (λ j d hi. elim (cases_lt j from) [
    | inl before ↦ both_fail _ _ (starts.fails j d before hi)
    | inr at_least ↦ past_fails _ _ (ends.holds j d (omega (arith, ge, at_least)) hi)
  ])

-- ---- where a walk ends

module _ {K : Type 0} {R : K → K → Ordering} (o : IsTotalOrder R) where
  -- what is greater than a key past the bound is past it too
  past_above : (high : Bound K) (p q : K) → R p q ≡ Less → is_past_end R high p ≡ true → is_past_end R high q ≡ true
  past_above (Included b) p q less past = go (R b p) refl past
    where
      go : (r : Ordering) → R b p ≡ r → is_lt r ≡ true → is_lt (R b q) ≡ true
      go Less order told = ap is_lt (o.trans b p q order less)
      go Equal order told = absurd (true≢false (sym told))
      go Greater order told = absurd (true≢false (sym told))
  past_above (Excluded b) p q less past = go (R b p) refl past
    where
      go : (r : Ordering) → R b p ≡ r → is_le r ≡ true → is_le (R b q) ≡ true
      go Less order told = ap is_le (o.trans b p q order less)
      go Equal order told = ap is_le (o.congr b p q order ∙ less)
      go Greater order told = absurd (true≢false (sym told))
  past_above Unbounded p q less past = absurd (true≢false (sym past))

  module _ {X : Type 0} (es : List (K × X)) (rising : IsStrictlySortedBy R (keys_of es)) where
    past_later : (high : Bound K) (i j : ℕ) (d : K × X) → i ≤ j → j < length es → is_past_end R high (get_or es i d).0 ≡ true → is_past_end R high (get_or es j d).0 ≡ true
    past_later high i j d le hi past = elim (cases_lt i j) [
      | inl before ↦ past_above high _ _ (less_at o es rising i j d before hi) past
      | inr at_least ↦ let same : i ≡ j = omega (arith, le, at_least) in subst (λ n. is_past_end R high (get_or es n d).0 ≡ true) same past
    ]

    -- what a walk from the first place within the lower bound passes is what stands between the bounds
    pub between_few : (start : K → Bool) (high : Bound K) (from to : ℕ) → IsCutAt start es from → IsEndFrom (is_past_end R high) es from to
        → drop from (take to es) ≡ filter (λ (e : K × X). start e.0 && not (is_past_end R high e.0)) es
    between_few start high from to starts ends = part_passes (λ (e : K × X). start e.0 && not (is_past_end R high e.0)) es from to ends.onward ends.in_range
        (λ j d lt hi. both_fail _ _ (starts.fails j d lt hi))
        (λ j d ge lt. let hi : j < length es = omega (arith, lt, ends.in_range) in inside_holds _ _ (starts.holds j d ge hi) (ends.fails j d ge lt))
        (λ j d ge hi. past_fails _ _ (past_later high to j d ge hi (ends.holds d (omega (arith, ge, hi)))))
