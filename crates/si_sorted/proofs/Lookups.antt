-- What stands under each key after an edit.
use Rattle.std.proofs.Common.{◌≡◌, ◌∙◌, List, [], ◌∷◌, Bool, true, false, true≢false, cond, Some, None, Option, sym, ap, refl, Ordering, is_eq}
use Rattle.std.specs.BTreeMap.{insert_entry, is_at}
use Rattle.std.specs.Cmp.{IsTotalOrder, eq_by_cmp_equiv}
use Rattle.std.specs.List.Sorted.{IsStrictlySortedBy}
use Rattle.std.specs.Map.{keys_of, lookup, remove_entry}
use Rattle.std.specs.Ordering.{match_ordering, ordering_reverse}
use Rattle.std.specs.declared.cmp.Ordering.TheVariants.{Less, Equal, Greater}
use Rattle.std.proofs.lemmas.Map.{lookup-none}
use Rattle.std.proofs.lemmas.Map.Entries.{none_past_head}
use Rattle.std.proofs.lemmas.Map.Keys.{IsDistinct-from_sorted, sorted_tail}

equal_told : (r : Ordering) → is_eq r ≡ true → r ≡ Equal
equal_told Less e = absurd (true≢false (sym e))
equal_told Equal e = refl
equal_told Greater e = absurd (true≢false (sym e))

same_turned : (r : Ordering) → is_eq (ordering_reverse r) ≡ is_eq r
same_turned Less = refl
same_turned Equal = refl
same_turned Greater = refl

module _ {K : Type 0} {R : K → K → Ordering} (o : IsTotalOrder R) where
  turned : (x y : K) → is_eq (R x y) ≡ is_eq (R y x)
  turned x y = ap is_eq (o.antisymm x y) ∙ same_turned (R y x)

  module _ (k q : K) where
    -- two keys that are the same are the same as a third, or not, alike
    alike : (e : K) → R k e ≡ Equal → is_eq (R q e) ≡ is_eq (R k q)
    alike e same = turned q e ∙ ap is_eq (sym (o.congr k e q same))

    apart : (e : K) → is_eq (R k e) ≡ false → is_eq (R q e) ≡ true → is_eq (R k q) ≡ false
    apart e differ same = turned k q ∙ ap is_eq (o.congr q e k (equal_told _ same)) ∙ turned e k ∙ differ

module _ {K X : Type 0} {R : K → K → Ordering} (o : IsTotalOrder R) where
  module _ (k : K) (v : X) (q : K) where
    one_first : (e : K × X) (es : List (K × X)) → lookup (is_at (R q)) ((k, v) ∷ e ∷ es) ≡ cond (is_eq (R k q)) (Some v) (lookup (is_at (R q)) (e ∷ es))
    one_first e es = ap (λ b. cond b (Some v) (lookup (is_at (R q)) (e ∷ es))) (turned o q k)

    one_replaced : (e : K × X) (es : List (K × X)) → R k e.0 ≡ Equal → lookup (is_at (R q)) ((e.0, v) ∷ es) ≡ cond (is_eq (R k q)) (Some v) (lookup (is_at (R q)) (e ∷ es))
    one_replaced e es same = go (is_eq (R q e.0)) (is_eq (R k q)) (alike o k q e.0 same)
      where
        go : (a b : Bool) → a ≡ b → cond a (Some v) (lookup (is_at (R q)) es) ≡ cond b (Some v) (cond a (Some e.1) (lookup (is_at (R q)) es))
        go true true is = refl
        go true false is = absurd (true≢false is)
        go false true is = absurd (true≢false (sym is))
        go false false is = refl

    one_later : (e : K × X) (rest : Option X) (was : Option X) → is_eq (R k e.0) ≡ false → rest ≡ cond (is_eq (R k q)) (Some v) was → cond (is_eq (R q e.0)) (Some e.1) rest ≡ cond (is_eq (R k q)) (Some v) (cond (is_eq (R q e.0)) (Some e.1) was)
    one_later e rest was differ is = go (is_eq (R q e.0)) refl
      where
        go : (a : Bool) → is_eq (R q e.0) ≡ a → cond a (Some e.1) rest ≡ cond (is_eq (R k q)) (Some v) (cond a (Some e.1) was)
        go true same = sym (ap (λ b. cond b (Some v) (Some e.1)) (apart o k q e.0 differ same))
        go false same = is

    pub found_after : (es : List (K × X)) → lookup (is_at (R q)) (insert_entry R es k v) ≡ cond (is_eq (R k q)) (Some v) (lookup (is_at (R q)) es)
    found_after [] = ap (λ b. cond b (Some v) None) (turned o q k)
    found_after (e ∷ es) = go (R k e.0) refl (found_after es)
      where
        go : (r : Ordering) → R k e.0 ≡ r → lookup (is_at (R q)) (insert_entry R es k v) ≡ cond (is_eq (R k q)) (Some v) (lookup (is_at (R q)) es)
            → lookup (is_at (R q)) (match_ordering r ((k, v) ∷ e ∷ es) ((e.0, v) ∷ es) (e ∷ insert_entry R es k v)) ≡ cond (is_eq (R k q)) (Some v) (lookup (is_at (R q)) (e ∷ es))
        go Less is rest = one_first e es
        go Equal is rest = one_replaced e es is
        go Greater is rest = one_later e _ _ (ap is_eq is) rest

  module _ (k q : K) where
    one_gone : (e : K × X) (es : List (K × X)) → IsStrictlySortedBy R (keys_of (e ∷ es)) → is_eq (R k e.0) ≡ true → lookup (is_at (R q)) es ≡ cond (is_eq (R k q)) None (lookup (is_at (R q)) (e ∷ es))
    one_gone e es rising same = go (is_eq (R q e.0)) refl (alike o k q e.0 (equal_told _ same))
      where
        go : (a : Bool) → is_eq (R q e.0) ≡ a → a ≡ is_eq (R k q) → lookup (is_at (R q)) es ≡ cond (is_eq (R k q)) None (cond a (Some e.1) (lookup (is_at (R q)) es))
        go true at is = lookup-none (is_at (R q)) es (none_past_head (eq_by_cmp_equiv o) q e es (IsDistinct-from_sorted R (keys_of (e ∷ es)) rising) at) ∙ ap (λ b. cond b None (Some e.1)) is
        go false at is = ap (λ b. cond b None (lookup (is_at (R q)) es)) is

    one_stays : (e : K × X) (rest : Option X) (was : Option X) → is_eq (R k e.0) ≡ false → rest ≡ cond (is_eq (R k q)) None was → cond (is_eq (R q e.0)) (Some e.1) rest ≡ cond (is_eq (R k q)) None (cond (is_eq (R q e.0)) (Some e.1) was)
    one_stays e rest was differ is = go (is_eq (R q e.0)) refl
      where
        go : (a : Bool) → is_eq (R q e.0) ≡ a → cond a (Some e.1) rest ≡ cond (is_eq (R k q)) None (cond a (Some e.1) was)
        go true same = sym (ap (λ b. cond b None (Some e.1)) (apart o k q e.0 differ same))
        go false same = is

    pub left_after : (es : List (K × X)) → IsStrictlySortedBy R (keys_of es) → lookup (is_at (R q)) (remove_entry (is_at (R k)) es) ≡ cond (is_eq (R k q)) None (lookup (is_at (R q)) es)
    left_after [] rising = go (is_eq (R k q))
      where
        nothing : Option X
        nothing = None

        go : (b : Bool) → nothing ≡ cond b None nothing
        go true = refl
        go false = refl
    left_after (e ∷ es) rising = go (is_eq (R k e.0)) refl (left_after es (sorted_tail R e.0 (keys_of es) rising))
      where
        go : (b : Bool) → is_eq (R k e.0) ≡ b → lookup (is_at (R q)) (remove_entry (is_at (R k)) es) ≡ cond (is_eq (R k q)) None (lookup (is_at (R q)) es)
            → lookup (is_at (R q)) (cond b es (e ∷ remove_entry (is_at (R k)) es)) ≡ cond (is_eq (R k q)) None (lookup (is_at (R q)) (e ∷ es))
        go true is rest = one_gone e es rising is
        go false is rest = one_stays e _ _ is rest
