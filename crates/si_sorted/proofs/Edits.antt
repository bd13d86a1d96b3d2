-- What an edit at a key's place leaves of entries, and what is found there.
use Rattle.std.proofs.Common.{◌≡◌, ◌∙◌, ℕ, zero, suc, List, [], ◌∷◌, ◌++◌, length, get_or, set, cond, Bool, true, false, Some, None, sym, ap, refl, arith, Ordering, is_eq}
use Rattle.std.specs.BTreeMap.{insert_entry, is_at}
use Rattle.std.specs.List.{insert, remove, AllByRecursion}
use Rattle.std.specs.Map.{keys_of, lookup, remove_entry}
use Rattle.std.specs.Ordering.{match_ordering}
use Rattle.std.specs.declared.cmp.Ordering.TheVariants.{Less, Equal, Greater}
use Rattle.si_sorted.specs.Places.{IsGapFor, IsPlaceOf}

module _ {K X : Type 0} (R : K → K → Ordering) (k : K) where
  pub gap_tail : (e : K × X) (es : List (K × X)) (i : ℕ) → IsGapFor R (e ∷ es) k (suc i) → IsGapFor R es k i
  gap_tail e es i gap = record {
    in_range = omega (arith, gap.in_range);
    above = λ j d lt. gap.above (suc j) d (omega (arith, lt));
    below = λ j d le hi. gap.below (suc j) d (omega (arith, le)) (omega (arith, hi));
  }

  pub place_tail : (e : K × X) (es : List (K × X)) (i : ℕ) → IsPlaceOf R (e ∷ es) k (suc i) → IsPlaceOf R es k i
  place_tail e es i place = record {
    in_range = omega (arith, place.in_range);
    above = λ j d lt. place.above (suc j) d (omega (arith, lt));
    equal = λ d. place.equal d;
    below = λ j d le hi. place.below (suc j) d (omega (arith, le)) (omega (arith, hi));
  }

  module _ (v : X) where
    inserted : (e : K × X) (es : List (K × X)) (r : Ordering) → R k e.0 ≡ r → insert_entry R (e ∷ es) k v ≡ match_ordering r ((k, v) ∷ e ∷ es) ((e.0, v) ∷ es) (e ∷ insert_entry R es k v)
    inserted e es r is = ap (λ s. match_ordering s ((k, v) ∷ e ∷ es) ((e.0, v) ∷ es) (e ∷ insert_entry R es k v)) is

    pub insert_at_gap : (es : List (K × X)) (i : ℕ) → IsGapFor R es k i → insert es i (k, v) ≡ insert_entry R es k v
    insert_at_gap [] zero gap = refl
    insert_at_gap [] (suc i) gap = absurd (omega (arith, gap.in_range))
    insert_at_gap (e ∷ es) zero gap = sym (inserted e es Less (gap.below 0 e (omega arith) (omega arith)))
    insert_at_gap (e ∷ es) (suc i) gap =
        ap (λ l. e ∷ l) (insert_at_gap es i (gap_tail e es i gap))
        ∙ sym (inserted e es Greater (gap.above 0 e (omega arith)))

    pub push_at_gap : (es : List (K × X)) → IsGapFor R es k (length es) → es ++ (k, v) ∷ [] ≡ insert_entry R es k v
    push_at_gap [] gap = refl
    push_at_gap (e ∷ es) gap =
        ap (λ l. e ∷ l) (push_at_gap es (gap_tail e es (length es) gap))
        ∙ sym (inserted e es Greater (gap.above 0 e (omega arith)))

    pub set_at_place : (es : List (K × X)) (i : ℕ) (d : K × X) → IsPlaceOf R es k i → set es i ((get_or es i d).0, v) ≡ insert_entry R es k v
    set_at_place [] i d place = absurd (omega (arith, place.in_range))
    set_at_place (e ∷ es) zero d place = sym (inserted e es Equal (place.equal e))
    set_at_place (e ∷ es) (suc i) d place =
        ap (λ l. e ∷ l) (set_at_place es i d (place_tail e es i place))
        ∙ sym (inserted e es Greater (place.above 0 e (omega arith)))

  -- ---- what is found, and what a removal leaves

  looked : (e : K × X) (es : List (K × X)) (b : Bool) → is_eq (R k e.0) ≡ b → lookup (is_at (R k)) (e ∷ es) ≡ cond b (Some e.1) (lookup (is_at (R k)) es)
  looked e es b is = ap (λ a. cond a (Some e.1) (lookup (is_at (R k)) es)) is

  taken : (e : K × X) (es : List (K × X)) (b : Bool) → is_eq (R k e.0) ≡ b → remove_entry (is_at (R k)) (e ∷ es) ≡ cond b es (e ∷ remove_entry (is_at (R k)) es)
  taken e es b is = ap (λ a. cond a es (e ∷ remove_entry (is_at (R k)) es)) is

  pub found_at_place : (es : List (K × X)) (i : ℕ) (d : K × X) → IsPlaceOf R es k i → lookup (is_at (R k)) es ≡ Some (get_or es i d).1
  found_at_place [] i d place = absurd (omega (arith, place.in_range))
  found_at_place (e ∷ es) zero d place = looked e es true (ap is_eq (place.equal e))
  found_at_place (e ∷ es) (suc i) d place = looked e es false (ap is_eq (place.above 0 e (omega arith))) ∙ found_at_place es i d (place_tail e es i place)

  pub removed_at_place : (es : List (K × X)) (i : ℕ) → IsPlaceOf R es k i → remove es i ≡ remove_entry (is_at (R k)) es
  removed_at_place [] i place = absurd (omega (arith, place.in_range))
  removed_at_place (e ∷ es) zero place = sym (taken e es true (ap is_eq (place.equal e)))
  removed_at_place (e ∷ es) (suc i) place =
      ap (λ l. e ∷ l) (removed_at_place es i (place_tail e es i place))
      ∙ sym (taken e es false (ap is_eq (place.above 0 e (omega arith))))

  -- no entry has the key where it has a gap
  gap_at_first : (e : K × X) (es : List (K × X)) (i : ℕ) → IsGapFor R (e ∷ es) k i → is_eq (R k e.0) ≡ false
  gap_at_first e es zero gap = ap is_eq (gap.below 0 e (omega arith) (omega arith))
  gap_at_first e es (suc i) gap = ap is_eq (gap.above 0 e (omega arith))

  gap_behind : (e : K × X) (es : List (K × X)) (i : ℕ) → IsGapFor R (e ∷ es) k i → (j : ℕ) × IsGapFor R es k j
  gap_behind e es zero gap = (
    0,
    record {
      in_range = omega arith;
      above = λ j d lt. absurd (omega (arith, lt));
      below = λ j d le hi. gap.below (suc j) d (omega arith) (omega (arith, hi));
    },
  )
  gap_behind e es (suc i) gap = (i, gap_tail e es i gap)

  pub none_at_gap : (es : List (K × X)) (i : ℕ) → IsGapFor R es k i → lookup (is_at (R k)) es ≡ None
  none_at_gap [] i gap = refl
  none_at_gap (e ∷ es) i gap = let rest = gap_behind e es i gap in looked e es false (gap_at_first e es i gap) ∙ none_at_gap es rest.0 rest.1

  pub kept_at_gap : (es : List (K × X)) (i : ℕ) → IsGapFor R es k i → es ≡ remove_entry (is_at (R k)) es
  kept_at_gap [] i gap = refl
  kept_at_gap (e ∷ es) i gap =
      let rest = gap_behind e es i gap in
      ap (λ l. e ∷ l) (kept_at_gap es rest.0 rest.1) ∙ sym (taken e es false (gap_at_first e es i gap))

-- ---- one more at the end

pub last_is_above : {K X : Type 0} (R : K → K → Ordering) (k : K) (es : List (K × X)) (e : K × X) (rest : List (K × X)) → AllByRecursion (λ q. R k q ≡ Less) (keys_of (es ++ e ∷ rest)) → R k e.0 ≡ Less
last_is_above R k [] e rest all = all.0
last_is_above R k (f ∷ es) e rest all = last_is_above R k es e rest all.1
