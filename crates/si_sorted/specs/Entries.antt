-- What stands under a key and next to it among entries in the order of their keys, and how many others move where an entry comes or goes.
use Rattle.std.specs.Prelude.{◌≡◌, ℕ, false, cond, List, Option, Some, None, count_by, is_some}
use Rattle.std.specs.List.{Contains}
use Rattle.std.specs.BTreeMap.{is_at}
use Rattle.std.specs.Map.{lookup, update}
use Rattle.std.specs.Ordering.{eq_by_cmp, is_gt, is_lt}
use Rattle.std.specs.declared.cmp.Ordering.{Ordering}
use Rattle.std.specs.declared.cmp.Ordering.TheVariants.{Less, Greater}

module _ {K X : Type 0} (cmp : K → K → Ordering) where
  -- what stands under a key
  abbrev pub value_at : List (K × X) → K → Option X
  value_at es q = lookup (is_at (cmp q)) es

  -- o stands under the key afterwards, and all else as before
  abbrev pub Sets : K → Option X → List (K × X) → List (K × X) → Type 0
  Sets k o old new = (q : K) → value_at new q ≡ update (eq_by_cmp cmp) (value_at old) k o q

  -- the last entry below the key, if there is one
  abbrev pub IsLastBelow : List (K × X) → K → Option (K × X) → Type 0
  IsLastBelow es k None = (x : K × X) → Contains es x → is_gt (cmp k x.0) ≡ false
  IsLastBelow es k (Some e) = Contains es e × (cmp k e.0 ≡ Greater) × ((x : K × X) → Contains es x → cmp k x.0 ≡ Greater → is_lt (cmp e.0 x.0) ≡ false)

  -- the first entry above it, if there is one
  abbrev pub IsFirstAbove : List (K × X) → K → Option (K × X) → Type 0
  IsFirstAbove es k None = (x : K × X) → Contains es x → is_lt (cmp k x.0) ≡ false
  IsFirstAbove es k (Some e) = Contains es e × (cmp k e.0 ≡ Less) × ((x : K × X) → Contains es x → cmp k x.0 ≡ Less → is_gt (cmp e.0 x.0) ≡ false)

  -- the first entry at the key or above it, if there is one
  abbrev pub IsFirstFrom : List (K × X) → K → Option (K × X) → Type 0
  IsFirstFrom es k None = (x : K × X) → Contains es x → cmp k x.0 ≡ Greater
  IsFirstFrom es k (Some e) = Contains es e × (is_gt (cmp k e.0) ≡ false) × ((x : K × X) → Contains es x → is_gt (cmp k x.0) ≡ false → is_gt (cmp e.0 x.0) ≡ false)

  -- how many entries stand above the key
  abbrev pub count_above : List (K × X) → K → ℕ
  count_above es k = count_by (λ e. is_lt (cmp k e.0)) es

  -- how many move if an entry comes with the key: those above it, or none where an entry has it already
  abbrev pub moved_by : List (K × X) → K → ℕ
  moved_by es k = cond (is_some (value_at es k)) 0 (count_above es k)

  -- how many others move if the entry with the key goes: those above it, or none where no entry has it
  abbrev pub moved_without : List (K × X) → K → ℕ
  moved_without es k = cond (is_some (value_at es k)) (count_above es k) 0
