-- Where a key is among entries in the order of their keys, or where it would go.
use Rattle.std.specs.Prelude.{◌≡◌, Bool, ℕ, suc, ◌<◌, ◌≤◌, List, length, slice_index_or, false, true}
use Rattle.std.specs.Ordering.{is_gt, is_lt}
use Rattle.std.specs.declared.cmp.Ordering.{Ordering}
use Rattle.std.specs.declared.cmp.Ordering.TheVariants.{Less, Equal, Greater}

module _ {K X : Type 0} (cmp : K → K → Ordering) where
  -- the key is greater than each key before the place
  abbrev pub IsAboveAllBefore : List (K × X) → K → ℕ → Type 0
  IsAboveAllBefore es k i = (j : ℕ) (d : K × X) → j < i → cmp k (slice_index_or es j d).0 ≡ Greater

  -- the key is less than each key from the place on
  abbrev pub IsBelowAllFrom : List (K × X) → K → ℕ → Type 0
  IsBelowAllFrom es k i = (j : ℕ) (d : K × X) → i ≤ j → j < length es → cmp k (slice_index_or es j d).0 ≡ Less

  -- the key is greater than no key from the place on
  abbrev pub IsAboveNoneFrom : List (K × X) → K → ℕ → Type 0
  IsAboveNoneFrom es k i = (j : ℕ) (d : K × X) → i ≤ j → j < length es → is_gt (cmp k (slice_index_or es j d).0) ≡ false

  -- the key is less than no key before the place
  abbrev pub IsBelowNoneBefore : List (K × X) → K → ℕ → Type 0
  IsBelowNoneBefore es k i = (j : ℕ) (d : K × X) → j < i → j < length es → is_lt (cmp k (slice_index_or es j d).0) ≡ false

  -- the entry at the place has the key
  pub record IsPlaceOf (es : List (K × X)) (k : K) (i : ℕ) : Type 0 where
    pub in_range : i < length es
    pub above : IsAboveAllBefore es k i
    pub equal : (d : K × X) → cmp k (slice_index_or es i d).0 ≡ Equal
    pub below : IsBelowAllFrom es k (suc i)

  -- no entry has the key, and it would go to the place
  pub record IsGapFor (es : List (K × X)) (k : K) (i : ℕ) : Type 0 where
    pub in_range : i ≤ length es
    pub above : IsAboveAllBefore es k i
    pub below : IsBelowAllFrom es k i

-- the test fails at each key before the place, and holds at each one from it on
pub record IsCutAt {K X : Type 0} (test : K → Bool) (es : List (K × X)) (i : ℕ) : Type 0 where
  pub in_range : i ≤ length es
  pub fails : (j : ℕ) (d : K × X) → j < i → j < length es → test (slice_index_or es j d).0 ≡ false
  pub holds : (j : ℕ) (d : K × X) → i ≤ j → j < length es → test (slice_index_or es j d).0 ≡ true

-- the test fails at each key from the first place up to the second, and holds at the one that stands there, if one does
pub record IsEndFrom {K X : Type 0} (test : K → Bool) (es : List (K × X)) (from to : ℕ) : Type 0 where
  pub onward : from ≤ to
  pub in_range : to ≤ length es
  pub fails : (j : ℕ) (d : K × X) → from ≤ j → j < to → test (slice_index_or es j d).0 ≡ false
  pub holds : (d : K × X) → to < length es → test (slice_index_or es to d).0 ≡ true
