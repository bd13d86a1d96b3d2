-- The first of some entries that passes, found by a walk.
use Rattle.std.proofs.Common.{◌≡◌, ◌∙◌, ℕ, suc, zero, ◌+◌, ◌<◌, ◌++◌, ◌∷◌, [], Bool, true, false, cond, List, Option, Some, None, length, take, get_or, refl, sym, ap, arith}
use Rattle.std.specs.BTreeMap.Range.{entries_between}
use Rattle.std.specs.List.{find}
use Rattle.std.specs.Option.{option_or}
use Rattle.std.specs.declared.cmp.Ordering.{Ordering}
use Rattle.std.specs.declared.ops.Bound.TheVariants.{Unbounded}
use Rattle.std.proofs.lemmas.List.{take_more}
use Rattle.std.proofs.lemmas.List.Folds.{find-append}

module _ {X : Type 0} (p : X → Bool) where
  -- none of the first ones passes, and the next one does
  pub next_passes : (xs : List X) (i : ℕ) (x : X) → find p (take i xs) ≡ None → i < length xs → x ≡ get_or xs i x → p x ≡ true → Some x ≡ find p xs
  next_passes [] i x none within is passes = absurd (omega arith)
  next_passes (y ∷ xs) zero x none within is passes = ap Some is ∙ sym (ap (λ b. cond b (Some y) (find p xs)) (ap p (sym is) ∙ passes))
  next_passes (y ∷ xs) (suc i) x none within is passes = by (p y) refl none (next_passes xs i x)
    where
      by : (b : Bool) → p y ≡ b → cond b (Some y) (find p (take i xs)) ≡ None
          → (find p (take i xs) ≡ None → i < length xs → x ≡ get_or xs i x → p x ≡ true → Some x ≡ find p xs) → Some x ≡ cond (p y) (Some y) (find p xs)
      by true e f later = absurd (some_or_none y f)
        where
          some_or_none : (y : X) → Some y ≡ None → ⊥
          some_or_none y e = cc
      by false e f later = later f (omega arith) is passes ∙ sym (ap (λ b. cond b (Some y) (find p xs)) e)

  -- none of the first ones passes, nor the next one
  pub next_fails : (xs : List X) (i : ℕ) (x : X) → find p (take i xs) ≡ None → i < length xs → x ≡ get_or xs i x → p x ≡ false → find p (take (i + 1) xs) ≡ None
  next_fails xs i x none within is fails =
      ap (find p) (take_more xs i x within ∙ ap (λ y. take i xs ++ y ∷ []) (sym is)) ∙ find-append p (take i xs) (x ∷ [])
      ∙ ap (λ o. option_or o (find p (x ∷ []))) none ∙ ap (λ b. cond b (Some x) None) fails

  -- one more comes behind those that were walked
  pub one_more : (xs : List X) (x : X) (o : Option X) → o ≡ find p xs → option_or o (cond (p x) (Some x) None) ≡ find p (xs ++ x ∷ [])
  one_more xs x o e = ap (λ f. option_or f (cond (p x) (Some x) None)) e ∙ sym (find-append p xs (x ∷ []))

-- between no bounds stand all
pub all_between : {K Y : Type 0} (cmp : K → K → Ordering) (es : List (K × Y)) → entries_between cmp Unbounded Unbounded es ≡ es
all_between cmp [] = refl
all_between cmp (e ∷ es) = ap (λ l. e ∷ l) (all_between cmp es)
