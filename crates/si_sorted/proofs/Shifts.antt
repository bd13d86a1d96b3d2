-- A place among the entries from one on is a place among all of them.
use Rattle.std.proofs.Common.{◌≡◌, ◌∙◌, ℕ, zero, suc, ◌+◌, ◌-◌, ◌<◌, ◌≤◌, List, [], ◌∷◌, length, get_or, drop, take, inl, inr, ap, subst, arith, Ordering}
use Rattle.std.specs.List.Sorted.{IsStrictlySortedBy}
use Rattle.std.specs.Map.{keys_of}
use Rattle.std.specs.declared.cmp.Ordering.TheVariants.{Less, Equal, Greater}
use Rattle.std.proofs.lemmas.Bool.{cases_lt}
use Rattle.std.proofs.lemmas.List.{get_or-drop, length-drop, take_all}
use Rattle.std.proofs.lemmas.Map.Keys.{sorted_tail}
use Rattle.si_sorted.specs.Places.{IsAboveAllBefore, IsBelowAllFrom, IsGapFor, IsPlaceOf}

pub all_from : {A : Type 0} (low : ℕ) (xs : List A) → take (length xs - low) (drop low xs) ≡ drop low xs
all_from low xs = take_all (length xs - low) (drop low xs) (omega (arith, length-drop low xs))

pub rising_from : {K X : Type 0} (R : K → K → Ordering) (n : ℕ) (es : List (K × X)) → IsStrictlySortedBy R (keys_of es) → IsStrictlySortedBy R (keys_of (drop n es))
rising_from R zero es rising = rising
rising_from R (suc n) [] rising = rising
rising_from R (suc n) (e ∷ es) rising = rising_from R n es (sorted_tail R e.0 (keys_of es) rising)

module _ {K X : Type 0} (R : K → K → Ordering) (es : List (K × X)) (k : K) (low : ℕ) where
  entry_from : (j : ℕ) (d : K × X) → low ≤ j → get_or (drop low es) (j - low) d ≡ get_or es j d
  entry_from j d le =
      let sum : low + (j - low) ≡ j = omega (arith, le) in
      get_or-drop low es (j - low) d ∙ ap (λ n. get_or es n d) sum

  above_shifted : (i : ℕ) → IsAboveAllBefore R es k low → IsAboveAllBefore R (drop low es) k i → IsAboveAllBefore R es k (low + i)
  above_shifted i before from j d lt = elim (cases_lt j low) [
    | inl less ↦ before j d less
    | inr at_least ↦ subst (λ (e : K × X). R k e.0 ≡ Greater) (entry_from j d (omega (arith, at_least))) (from (j - low) d (omega (arith, lt, at_least)))
  ]

  below_shifted : (i j : ℕ) (d : K × X) → IsBelowAllFrom R (drop low es) k i → low + i ≤ j → j < length es → R k (get_or es j d).0 ≡ Less
  below_shifted i j d from le hi =
      subst (λ (e : K × X). R k e.0 ≡ Less) (entry_from j d (omega (arith, le))) (from (j - low) d (omega (arith, le)) (omega (arith, le, hi, length-drop low es)))

  pub place_shifted : (i : ℕ) → IsAboveAllBefore R es k low → IsPlaceOf R (drop low es) k i → IsPlaceOf R es k (low + i)
  place_shifted i before place = record {
    in_range = omega (arith, place.in_range, length-drop low es);
    above = above_shifted i before place.above;
    equal = λ d. subst (λ (e : K × X). R k e.0 ≡ Equal) (get_or-drop low es i d) (place.equal d);
    below = λ j d le hi. below_shifted (suc i) j d place.below (omega (arith, le)) hi;
  }

  pub gap_shifted : (i : ℕ) → low ≤ length es → IsAboveAllBefore R es k low → IsGapFor R (drop low es) k i → IsGapFor R es k (low + i)
  gap_shifted i bound before gap = record {
    in_range = omega (arith, bound, gap.in_range, length-drop low es);
    above = above_shifted i before gap.above;
    below = λ j d le hi. below_shifted i j d gap.below le hi;
  }
