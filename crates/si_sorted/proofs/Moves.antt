-- How many entries stand above a key, and what stays where one comes.
use Rattle.std.proofs.Common.{◌≡◌, ◌∙◌, ℕ, zero, suc, ◌+◌, ◌-◌, ◌<◌, ◌≤◌, List, [], ◌∷◌, length, get_or, cond, Some, Result, Ok, Err, OnOk, Vec, Global, sym, ap, ap₂, refl, arith, Ordering, is_eq, is_lt}
use Rattle.std.specs.BTreeMap.{insert_entry, is_at}
use Rattle.std.specs.Cmp.{IsTotalOrder}
use Rattle.std.specs.List.{slice_get}
use Rattle.std.specs.List.Sorted.{IsStrictlySortedBy}
use Rattle.std.specs.Map.{keys_of, lookup}
use Rattle.std.specs.Option.{is_some}
use Rattle.std.specs.Ordering.{match_ordering}
use Rattle.std.specs.declared.cmp.Ordering.TheVariants.{Less, Equal, Greater}
use Rattle.std.proofs.lemmas.List.Sums.{sum_by-cons}
use Rattle.std.proofs.lemmas.Map.Keys.{sorted_tail}
use Rattle.si_sorted.specs.Entries.{count_above, moved_by, moved_without}
use Rattle.si_sorted.specs.Forms.{MovesAtMost}
use Rattle.si_sorted.specs.Places.{IsGapFor, IsPlaceOf}
use Rattle.si_sorted.specs.declared.forms.Form.TheVariants.{Flat}
use Rattle.si_sorted.proofs.Edits.{found_at_place, gap_tail, none_at_gap, place_tail}
use Rattle.si_sorted.proofs.Search.{less_at}

module _ {K X : Type 0} (R : K → K → Ordering) (k : K) where
  counted : (e : K × X) (es : List (K × X)) (r : Ordering) → R k e.0 ≡ r → count_above R (e ∷ es) k ≡ cond (is_lt r) 1 0 + count_above R es k
  counted e es r is = sum_by-cons (λ (f : K × X). cond (is_lt (R k f.0)) 1 0) e es ∙ ap (λ s. cond (is_lt s) 1 0 + count_above R es k) is

  -- behind the first entry
  from_gap : (e : K × X) (es : List (K × X)) → IsGapFor R (e ∷ es) k 0 → IsGapFor R es k 0
  from_gap e es gap = record {
    in_range = omega arith;
    above = λ j d lt. absurd (omega (arith, lt));
    below = λ j d le hi. gap.below (suc j) d (omega arith) (omega (arith, hi));
  }

  behind_place : (e : K × X) (es : List (K × X)) → IsPlaceOf R (e ∷ es) k 0 → IsGapFor R es k 0
  behind_place e es place = record {
    in_range = omega arith;
    above = λ j d lt. absurd (omega (arith, lt));
    below = λ j d le hi. place.below (suc j) d (omega arith) (omega (arith, hi));
  }

  -- those above a key are those from its gap on, and those behind its place
  above_gap : (es : List (K × X)) (i : ℕ) → IsGapFor R es k i → count_above R es k + i ≡ length es
  above_gap [] i gap = omega (arith, gap.in_range)
  above_gap (e ∷ es) zero gap =
      let rest = above_gap es 0 (from_gap e es gap) in
      omega (arith, counted e es Less (gap.below 0 e (omega arith) (omega arith)), rest)
  above_gap (e ∷ es) (suc i) gap =
      let rest = above_gap es i (gap_tail R k e es i gap) in
      omega (arith, counted e es Greater (gap.above 0 e (omega arith)), rest)

  above_place : (es : List (K × X)) (i : ℕ) → IsPlaceOf R es k i → count_above R es k + suc i ≡ length es
  above_place [] i place = absurd (omega (arith, place.in_range))
  above_place (e ∷ es) zero place =
      let rest = above_gap es 0 (behind_place e es place) in
      omega (arith, counted e es Equal (place.equal e), rest)
  above_place (e ∷ es) (suc i) place =
      let rest = above_place es i (place_tail R k e es i place) in
      omega (arith, counted e es Greater (place.above 0 e (omega arith)), rest)

  pub moved_at_gap : (es : List (K × X)) (i : ℕ) → IsGapFor R es k i → length es - i ≡ moved_by R es k
  moved_at_gap es i gap =
      let told : length es - i ≡ count_above R es k = omega (arith, above_gap es i gap) in
      told ∙ sym (ap (λ o. cond (is_some o) 0 (count_above R es k)) (none_at_gap R k es i gap))

  pub none_moved_at_place : (es : List (K × X)) (i : ℕ) → IsPlaceOf R es k i → 0 ≡ moved_by R es k
  none_moved_at_place [] i place = absurd (omega (arith, place.in_range))
  none_moved_at_place (e ∷ es) i place = sym (ap (λ o. cond (is_some o) 0 (count_above R (e ∷ es) k)) (found_at_place R k (e ∷ es) i e place))

  pub moved_at_place : (es : List (K × X)) (i : ℕ) → IsPlaceOf R es k i → length es - i - 1 ≡ moved_without R es k
  moved_at_place [] i place = absurd (omega (arith, place.in_range))
  moved_at_place (e ∷ es) i place =
      let told : length (e ∷ es) - i - 1 ≡ count_above R (e ∷ es) k = omega (arith, above_place (e ∷ es) i place) in
      told ∙ sym (ap (λ o. cond (is_some o) (count_above R (e ∷ es) k) 0) (found_at_place R k (e ∷ es) i e place))

  pub none_moved_at_gap : (es : List (K × X)) (i : ℕ) → IsGapFor R es k i → 0 ≡ moved_without R es k
  none_moved_at_gap es i gap = sym (ap (λ o. cond (is_some o) (count_above R es k) 0) (none_at_gap R k es i gap))

module _ {K X : Type 0} {R : K → K → Ordering} (o : IsTotalOrder R) (k : K) (v : X) where
  gap_at_front : (e : K × X) (es : List (K × X)) → IsStrictlySortedBy R (keys_of (e ∷ es)) → R k e.0 ≡ Less → IsGapFor R (e ∷ es) k 0
  gap_at_front e es rising is = record { in_range = omega arith; above = λ j d lt. absurd (omega (arith, lt)); below = below }
    where
      below : (j : ℕ) (d : K × X) → 0 ≤ j → j < length (e ∷ es) → R k (get_or (e ∷ es) j d).0 ≡ Less
      below zero d le hi = is
      below (suc j) d le hi = o.trans _ _ _ is (less_at o (e ∷ es) rising 0 (suc j) d (omega arith) hi)

  -- the keys before those that move are where they were
  kept_before : (n : ℕ) (es : List (K × X)) → IsStrictlySortedBy R (keys_of es) → moved_by R es k ≤ n
      → (i : ℕ) → i + n < length es → slice_get (keys_of (insert_entry R es k v)) i ≡ slice_get (keys_of es) i
  kept_before n [] rising most i lt = absurd (omega (arith, lt))
  kept_before n (e ∷ es) rising most i lt = go (R k e.0) refl (kept_before n es (sorted_tail R e.0 (keys_of es) rising)) i lt
    where
      go : (r : Ordering) → R k e.0 ≡ r
          → (moved_by R es k ≤ n → (j : ℕ) → j + n < length es → slice_get (keys_of (insert_entry R es k v)) j ≡ slice_get (keys_of es) j)
          → (j : ℕ) → j + n < length (e ∷ es)
          → slice_get (keys_of (match_ordering r ((k, v) ∷ e ∷ es) ((e.0, v) ∷ es) (e ∷ insert_entry R es k v))) j ≡ slice_get (keys_of (e ∷ es)) j
      go Less is rest j hi =
          let all = moved_at_gap R k (e ∷ es) 0 (gap_at_front e es rising is) in
          absurd (omega (arith, all, most, hi))
      go Equal is rest j hi = refl
      go Greater is rest zero hi = refl
      go Greater is rest (suc j) hi =
          let count : count_above R (e ∷ es) k ≡ count_above R es k = omega (arith, counted R k e es Greater is) in
          let same : moved_by R (e ∷ es) k ≡ moved_by R es k = ap₂ (λ r m. cond (is_some (cond (is_eq r) (Some e.1) (lookup (is_at (R k)) es))) 0 m) is count in
          rest (omega (arith, same, most)) j (omega (arith, hi))

  -- an insertion by which few enough move
  pub few_move : {T E : Type 0} (n : ℕ) (r : Result T E) (old new : Vec (K × X) Global) → IsStrictlySortedBy R (keys_of old.items) → moved_by R old.items k ≤ n
      → OnOk r (new.items ≡ insert_entry R old.items k v) → OnOk r (MovesAtMost n (Flat old) (Flat new))
  few_move n (Ok done) old new rising most is = λ i lt. ap (λ es. slice_get (keys_of es) i) is ∙ kept_before n old.items rising most i lt
  few_move n (Err refused) old new rising most is = tt
