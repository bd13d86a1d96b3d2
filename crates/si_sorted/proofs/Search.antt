-- Where a search among entries in order ends.
use Rattle.std.proofs.Common.{◌≡◌, ◌∙◌, ℕ, ◌+◌, ◌<◌, List, length, get_or, Result, Ok, Err, inl, inr, false, true, true≢false, refl, sym, ap, ap₂, subst, arith, Ordering, is_gt, is_lt}
use Rattle.std.specs.Cmp.{IsTotalOrder, tied_back}
use Rattle.std.specs.List.Sorted.{IsStrictlySortedBy, IsNonDecreasingBy, IsSearchInRange, IsBinarySearchResult}
use Rattle.std.specs.Map.{keys_of}
use Rattle.std.specs.Ordering.{ordering_index, ordering_reverse}
use Rattle.std.specs.Result.{MatchResult}
use Rattle.std.specs.declared.cmp.Ordering.TheVariants.{Less, Equal, Greater}
use Rattle.std.proofs.Math.ListN.{get_or-map}
use Rattle.std.proofs.lemmas.Bool.{cases_lt}
use Rattle.std.proofs.lemmas.List.{get_or_default}
use Rattle.std.proofs.lemmas.List.Sorted.{searchable_from_sorted}
use Rattle.std.proofs.lemmas.Map.Entries.{length-keys_of}
use Rattle.std.proofs.lemmas.Map.Keys.{Less-from_sorted}
use Rattle.si_sorted.specs.Places.{IsAboveAllBefore, IsAboveNoneFrom, IsBelowAllFrom, IsBelowNoneBefore, IsGapFor, IsPlaceOf}

pub greater_from : (a : Ordering) → is_gt a ≡ true → a ≡ Greater
greater_from Less told = cc
greater_from Equal told = cc
greater_from Greater told = refl

module _ {K : Type 0} {R : K → K → Ordering} (o : IsTotalOrder R) where
  pub greater : (x y : K) → R x y ≡ Less → R y x ≡ Greater
  greater x y e = o.antisymm y x ∙ ap ordering_reverse e

  pub less : (x y : K) → R x y ≡ Greater → R y x ≡ Less
  less x y e = o.antisymm y x ∙ ap ordering_reverse e

  module _ {X : Type 0} (es : List (K × X)) (rising : IsStrictlySortedBy R (keys_of es)) where
    pub less_at : (i j : ℕ) (d : K × X) → i < j → j < length es → R (get_or es i d).0 (get_or es j d).0 ≡ Less
    less_at i j d lt in_range =
        ap₂ R (sym (get_or-map (λ (e : K × X). e.0) es i d)) (sym (get_or-map (λ (e : K × X). e.0) es j d))
        ∙ Less-from_sorted R (keys_of es) i j d.0 rising lt (subst (λ n. j < n) (sym (length-keys_of es)) in_range)

    -- the comparisons with a key rise along the entries, as a search asks
    comparisons_rise : (k : K) → IsNonDecreasingBy (λ (e : K × X). ordering_index (R e.0 k)) es
    comparisons_rise k = searchable_from_sorted o (λ (e : K × X). e.0) es k (λ i d lo hi. ap is_lt (greater _ _ (less_at i (i + 1) d (omega arith) hi)))

    pub searched : (k : K) (r : Result ℕ ℕ) → IsSearchInRange r (length es) → IsBinarySearchResult (λ (e : K × X). R e.0 k) es r → MatchResult r (IsPlaceOf R es k) (IsGapFor R es k)
    searched k (Ok at) in_range equal = record {
      in_range = in_range;
      above = λ j d lt. sym (o.congr _ _ _ (equal d)) ∙ greater _ _ (less_at j at d lt in_range);
      equal = λ d. tied_back o _ _ (equal d);
      below = λ j d le hi. sym (o.congr _ _ _ (equal d)) ∙ less_at at j d (omega (arith, le)) hi;
    }
    searched k (Err at) in_range parted = let parts = parted (comparisons_rise k) in record {
      in_range = in_range;
      above = λ j d lt. greater _ _ (parts.0 j d (omega arith) lt);
      below = λ j d le hi. less _ _ (parts.1 j d le hi);
    }

    -- a key above an entry's is above all before it
    pub above_before : (k : K) (i : ℕ) (e : K × X) → i < length es → get_or es i e ≡ e → R k e.0 ≡ Greater → IsAboveAllBefore R es k i
    above_before k i e in_range is above_e j d lt =
        let here : get_or es i d ≡ e = get_or_default es i d e in_range ∙ is in
        greater _ _ (o.trans _ _ _ (subst (λ (f : K × X). R (get_or es j d).0 f.0 ≡ Less) here (less_at j i d lt in_range)) (less _ _ above_e))

    -- a key above the last one is above all
    pub beyond : (k : K) (i : ℕ) (last : K × X) → length es ≡ i + 1 → get_or es i last ≡ last → R k last.0 ≡ Greater → IsGapFor R es k (length es)
    beyond k i last count is above_last = record { in_range = omega arith; above = above; below = λ j d le hi. absurd (omega (arith, le, hi)) }
      where
        above : IsAboveAllBefore R es k (length es)
        above j d lt = elim (cases_lt j i) [
          | inl before ↦ above_before k i last (omega (arith, count)) is above_last j d before
          | inr at_least ↦
              let same : j ≡ i = omega (arith, at_least, lt, count) in
              subst (λ (e : K × X). R k e.0 ≡ Greater) (sym (ap (λ n. get_or es n d) same ∙ get_or_default es i d last (omega (arith, count)) ∙ is)) above_last
        ]

    -- an entry that has the key stands at its place
    pub at_entry : (k : K) (i : ℕ) (e : K × X) → i < length es → get_or es i e ≡ e → R k e.0 ≡ Equal → IsPlaceOf R es k i
    at_entry k i e in_range is same =
        searched k (Ok i) in_range (λ d. tied_back o _ _ (subst (λ (f : K × X). R k f.0 ≡ Equal) (sym (get_or_default es i d e in_range ∙ is)) same))

    -- a key that isn't below an entry's is above all before it
    pub above_before_none_less : (k : K) (i : ℕ) (e : K × X) → i < length es → get_or es i e ≡ e → is_lt (R k e.0) ≡ false → IsAboveAllBefore R es k i
    above_before_none_less k i e in_range is never_less = go (R k e.0) refl never_less
      where
        go : (r : Ordering) → R k e.0 ≡ r → is_lt r ≡ false → IsAboveAllBefore R es k i
        go Less order never = absurd (true≢false never)
        go Equal order never = (at_entry k i e in_range is order).above
        go Greater order never = above_before k i e in_range is order

-- ---- by a place and by a gap

module _ {K X : Type 0} (R : K → K → Ordering) (es : List (K × X)) (k : K) (i : ℕ) where
  at_place : (j : ℕ) (d : K × X) → j ≡ i → IsPlaceOf R es k i → R k (get_or es j d).0 ≡ Equal
  at_place j d same place = subst (λ n. R k (get_or es n d).0 ≡ Equal) (sym same) (place.equal d)

  pub none_from_place : IsPlaceOf R es k i → IsAboveNoneFrom R es k i
  none_from_place place j d le hi = elim (cases_lt i j) [
    | inl beyond ↦ ap is_gt (place.below j d (omega (arith, beyond)) hi)
    | inr here ↦ ap is_gt (at_place j d (omega (arith, le, here)) place)
  ]

  pub none_from_gap : IsGapFor R es k i → IsAboveNoneFrom R es k i
  none_from_gap gap j d le hi = ap is_gt (gap.below j d le hi)

  pub none_up_to_place : IsPlaceOf R es k i → IsBelowNoneBefore R es k (i + 1)
  none_up_to_place place j d lt hi = elim (cases_lt j i) [
    | inl before ↦ ap is_lt (place.above j d before)
    | inr here ↦ ap is_lt (at_place j d (omega (arith, lt, here)) place)
  ]

  pub below_past_place : IsPlaceOf R es k i → IsBelowAllFrom R es k (i + 1)
  below_past_place place j d le hi = place.below j d (omega (arith, le)) hi

  pub none_up_to_gap : IsGapFor R es k i → IsBelowNoneBefore R es k i
  none_up_to_gap gap j d lt hi = ap is_lt (gap.above j d lt)
