-- What stands next to a key's place.
use Rattle.std.proofs.Common.{◌≡◌, ◌∙◌, ℕ, suc, ◌<◌, ◌≤◌, List, length, get_or, false, true≢false, Some, None, inl, inr, sym, ap, subst, arith, Ordering, is_gt, is_lt}
use Rattle.std.specs.Cmp.{IsTotalOrder, tied_itself}
use Rattle.std.specs.List.{Contains}
use Rattle.std.specs.List.Sorted.{IsStrictlySortedBy}
use Rattle.std.specs.Map.{keys_of}
use Rattle.std.specs.declared.cmp.Ordering.TheVariants.{Less, Equal, Greater}
use Rattle.std.proofs.lemmas.Bool.{cases_lt}
use Rattle.std.proofs.lemmas.List.{get_or_default}
use Rattle.si_sorted.specs.Entries.{IsFirstAbove, IsFirstFrom, IsLastBelow}
use Rattle.si_sorted.specs.Places.{IsAboveAllBefore, IsAboveNoneFrom, IsBelowNoneBefore}
use Rattle.si_sorted.proofs.Search.{greater, less_at}

module _ {K X : Type 0} {R : K → K → Ordering} (o : IsTotalOrder R) (es : List (K × X)) (rising : IsStrictlySortedBy R (keys_of es)) (k : K) where
  pub none_below : (i : ℕ) → i ≡ 0 → IsAboveNoneFrom R es k i → IsLastBelow R es k None
  none_below i first none x c = subst (λ (y : K × X). is_gt (R k y.0) ≡ false) c.2 (none c.0 x (omega (arith, first)) c.1)

  pub last_below : (i : ℕ) (e : K × X) → i < length es → get_or es i e ≡ e → R k e.0 ≡ Greater → IsAboveNoneFrom R es k (suc i) → IsLastBelow R es k (Some e)
  last_below i e in_range is above none = ((i, in_range, is), above, λ x c below. at_most x c below)
    where
      at_most : (x : K × X) → Contains es x → R k x.0 ≡ Greater → is_lt (R e.0 x.0) ≡ false
      at_most x c below = elim (cases_lt c.0 i) [
        | inl before ↦
            let one = less_at o es rising c.0 i x before in_range in
            let two = subst (λ (y : K × X). R y.0 (get_or es i x).0 ≡ Less) c.2 one in
            let three = subst (λ (y : K × X). R x.0 y.0 ≡ Less) (get_or_default es i x e in_range ∙ is) two in
            ap is_lt (greater o x.0 e.0 three)
        | inr at_least ↦ elim (cases_lt i c.0) [
          | inl beyond ↦ absurd (true≢false (sym (ap is_gt below) ∙ subst (λ (y : K × X). is_gt (R k y.0) ≡ false) c.2 (none c.0 x (omega (arith, beyond)) c.1)))
          | inr no_greater ↦
              let same : c.0 ≡ i = omega (arith, at_least, no_greater) in
              let here : x ≡ e = sym c.2 ∙ ap (λ n. get_or es n x) same ∙ get_or_default es i x e in_range ∙ is in
              ap is_lt (subst (λ (y : K × X). R e.0 y.0 ≡ Equal) (sym here) (tied_itself o e.0))
        ]
      ]

  pub none_above : (i : ℕ) → length es ≤ i → IsBelowNoneBefore R es k i → IsFirstAbove R es k None
  none_above i past none x c = subst (λ (y : K × X). is_lt (R k y.0) ≡ false) c.2 (none c.0 x (omega (arith, past, c.1)) c.1)

  pub first_above : (i : ℕ) (e : K × X) → i < length es → get_or es i e ≡ e → R k e.0 ≡ Less → IsBelowNoneBefore R es k i → IsFirstAbove R es k (Some e)
  first_above i e in_range is below none = ((i, in_range, is), below, λ x c above. at_least x c above)
    where
      at_least : (x : K × X) → Contains es x → R k x.0 ≡ Less → is_gt (R e.0 x.0) ≡ false
      at_least x c above = elim (cases_lt i c.0) [
        | inl beyond ↦
            let one = less_at o es rising i c.0 x beyond c.1 in
            let two = subst (λ (y : K × X). R (get_or es i x).0 y.0 ≡ Less) c.2 one in
            let three = subst (λ (y : K × X). R y.0 x.0 ≡ Less) (get_or_default es i x e in_range ∙ is) two in
            ap is_gt three
        | inr no_greater ↦ elim (cases_lt c.0 i) [
          | inl before ↦ absurd (true≢false (sym (ap is_lt above) ∙ subst (λ (y : K × X). is_lt (R k y.0) ≡ false) c.2 (none c.0 x before c.1)))
          | inr no_less ↦
              let same : c.0 ≡ i = omega (arith, no_greater, no_less) in
              let here : x ≡ e = sym c.2 ∙ ap (λ n. get_or es n x) same ∙ get_or_default es i x e in_range ∙ is in
              ap is_gt (subst (λ (y : K × X). R e.0 y.0 ≡ Equal) (sym here) (tied_itself o e.0))
        ]
      ]

  pub none_from : (i : ℕ) → length es ≤ i → IsAboveAllBefore R es k i → IsFirstFrom R es k None
  none_from i past above x c = subst (λ (y : K × X). R k y.0 ≡ Greater) c.2 (above c.0 x (omega (arith, past, c.1)))

  pub first_from : (i : ℕ) (e : K × X) → i < length es → get_or es i e ≡ e → is_gt (R k e.0) ≡ false → IsAboveAllBefore R es k i → IsFirstFrom R es k (Some e)
  first_from i e in_range is not_greater above = ((i, in_range, is), not_greater, λ x c from. at_least x c from)
    where
      at_least : (x : K × X) → Contains es x → is_gt (R k x.0) ≡ false → is_gt (R e.0 x.0) ≡ false
      at_least x c from = elim (cases_lt i c.0) [
        | inl beyond ↦
            let one = less_at o es rising i c.0 x beyond c.1 in
            let two = subst (λ (y : K × X). R (get_or es i x).0 y.0 ≡ Less) c.2 one in
            let three = subst (λ (y : K × X). R y.0 x.0 ≡ Less) (get_or_default es i x e in_range ∙ is) two in
            ap is_gt three
        | inr no_greater ↦ elim (cases_lt c.0 i) [
          | inl before ↦ absurd (true≢false (sym (ap is_gt (subst (λ (y : K × X). R k y.0 ≡ Greater) c.2 (above c.0 x before))) ∙ from))
          | inr no_less ↦
              let same : c.0 ≡ i = omega (arith, no_greater, no_less) in
              let here : x ≡ e = sym c.2 ∙ ap (λ n. get_or es n x) same ∙ get_or_default es i x e in_range ∙ is in
              ap is_gt (subst (λ (y : K × X). R e.0 y.0 ≡ Equal) (sym here) (tied_itself o e.0))
        ]
      ]
