-- The ends of a range of a tree are what stands next to a key.
use Rattle.std.proofs.Common.{◌≡◌, ◌∙◌, List, [], ◌∷◌, ◌++◌, Some, None, false, true≢false, IsSome, refl, sym, ap, subst, Ordering, is_gt, is_lt, is_some}
use Rattle.std.specs.BTreeMap.{BTreeMap, IsOrdered, get}
use Rattle.std.specs.BTreeMap.Range.{IsRangeOf, entries_between}
use Rattle.std.specs.Cmp.{IsTotalOrder}
use Rattle.std.specs.List.{Contains}
use Rattle.std.specs.declared.cmp.Ordering.TheVariants.{Less, Equal, Greater}
use Rattle.std.specs.declared.ops.Bound.TheVariants.{Excluded, Included, Unbounded}
use Rattle.std.proofs.lemmas.List.Elements.{Contains-append_right}
use Rattle.std.proofs.lemmas.Map.Views.{All-found}
use Rattle.si_lists.proofs.Members.{Contains-from_filter, here}
use Rattle.si_sorted.specs.Entries.{IsFirstAbove, IsFirstFrom, IsLastBelow}
use Rattle.si_sorted.proofs.Search.{greater, less}

module _ {K X : Type 0} {R : K → K → Ordering} (o : IsTotalOrder R) (m : BTreeMap K X) (ordered : IsOrdered R m) (k : K) (r : List (K × X)) where
  found : (x : K × X) → Contains m.entries x → get R m x.0 ≡ Some x.1
  found x c = subst (λ (y : K × X). get R m y.0 ≡ Some y.1) c.2 (All-found o m ordered c.0 x c.1)

  there_at : (x : K × X) → Contains m.entries x → IsSome (get R m x.0)
  there_at x c = ap is_some (found x c)

  not_none : (x : K × X) → Contains m.entries x → get R m x.0 ≡ None → ⊥
  not_none x c none = true≢false (sym (there_at x c) ∙ ap is_some none)

  pub last_in_tree : (t : List (K × X)) (e : K × X) → r ≡ entries_between R Unbounded (Excluded k) m.entries → IsRangeOf R Unbounded (Excluded k) m r → r ≡ t ++ e ∷ [] → IsLastBelow R m.entries k (Some e)
  last_in_tree t e between range is =
      let inside = Contains-from_filter _ m.entries e (subst (λ l. Contains l e) (sym is ∙ between) (Contains-append_right t (e ∷ []) e (here e []))) in
      let below = range.3 e t is in
      (inside.0, greater o e.0 k below.0.1, λ x c above. range.4 e t is x.0 (tt, less o k x.0 above) (there_at x c))

  pub none_below_in_tree : IsRangeOf R Unbounded (Excluded k) m r → r ≡ [] → IsLastBelow R m.entries k None
  none_below_in_tree range is x c = go (R k x.0) refl
    where
      go : (a : Ordering) → R k x.0 ≡ a → is_gt a ≡ false
      go Less e = refl
      go Equal e = refl
      go Greater e = absurd (not_none x c (range.5 is x.0 (tt, less o k x.0 e)))

  pub none_above_in_tree : IsRangeOf R (Excluded k) Unbounded m r → r ≡ [] → IsFirstAbove R m.entries k None
  none_above_in_tree range is x c = go (R k x.0) refl
    where
      go : (a : Ordering) → R k x.0 ≡ a → is_lt a ≡ false
      go Less e = absurd (not_none x c (range.5 is x.0 (e, tt)))
      go Equal e = refl
      go Greater e = refl

  pub first_in_tree : (t : List (K × X)) (e : K × X) → r ≡ entries_between R (Excluded k) Unbounded m.entries → IsRangeOf R (Excluded k) Unbounded m r → r ≡ e ∷ t → IsFirstAbove R m.entries k (Some e)
  first_in_tree t e between range is =
      let inside = Contains-from_filter _ m.entries e (subst (λ l. Contains l e) (sym is ∙ between) (here e t)) in
      let first = subst (IsRangeOf R (Excluded k) Unbounded m) is range in
      (inside.0, first.1.0.0, λ x c above. first.2 x.0 (above, tt) (there_at x c))

  pub none_from_in_tree : IsRangeOf R (Included k) Unbounded m r → r ≡ [] → IsFirstFrom R m.entries k None
  none_from_in_tree range is x c = go (R k x.0) refl
    where
      go : (a : Ordering) → R k x.0 ≡ a → a ≡ Greater
      go Less e = absurd (not_none x c (range.5 is x.0 (ap is_gt e, tt)))
      go Equal e = absurd (not_none x c (range.5 is x.0 (ap is_gt e, tt)))
      go Greater e = refl

  pub first_from_in_tree : (t : List (K × X)) (e : K × X) → r ≡ entries_between R (Included k) Unbounded m.entries → IsRangeOf R (Included k) Unbounded m r → r ≡ e ∷ t → IsFirstFrom R m.entries k (Some e)
  first_from_in_tree t e between range is =
      let inside = Contains-from_filter _ m.entries e (subst (λ l. Contains l e) (sym is ∙ between) (here e t)) in
      let first = subst (IsRangeOf R (Included k) Unbounded m) is range in
      (inside.0, first.1.0.0, λ x c from. first.2 x.0 (from, tt) (there_at x c))
