-- Entries stay in order through an edit.
use Rattle.std.proofs.Common.{◌≡◌, ◌∙◌, ℕ, zero, suc, ◌+◌, ◌<◌, List, [], ◌∷◌, ◌++◌, length, get_or, take, drop, Bool, true, false, cond, Some, None, is_eq, sym, ap, subst, refl, arith, Ordering}
use Rattle.std.specs.BTreeMap.{insert_entry, is_at}
use Rattle.std.specs.Cmp.{IsTotalOrder, eq_by_cmp_equiv}
use Rattle.std.specs.List.{AllByRecursion, filter}
use Rattle.std.specs.List.Sorted.{IsStrictlySortedBy}
use Rattle.std.specs.Map.{keys_of, lookup, remove_entry}
use Rattle.std.specs.Ordering.{match_ordering}
use Rattle.std.specs.declared.cmp.Ordering.TheVariants.{Less, Equal, Greater}
use Rattle.std.proofs.lemmas.Map.{lookup-none}
use Rattle.std.proofs.lemmas.Map.Entries.{none_past_head}
use Rattle.std.proofs.lemmas.Map.Keys.{IsDistinct-from_sorted, sorted_head, sorted_tail}
use Rattle.si_sorted.proofs.Edits.{last_is_above}
use Rattle.si_sorted.proofs.Search.{greater, less}

module _ {K : Type 0} (R : K → K → Ordering) where
  pub none_rises : IsStrictlySortedBy R []
  unfolding IsStrictlySortedBy
  none_rises = tt

  pub rising_more : (k : K) (ks : List K) → AllByRecursion (λ q. R k q ≡ Less) ks → IsStrictlySortedBy R ks → IsStrictlySortedBy R (k ∷ ks)
  unfolding IsStrictlySortedBy
  rising_more k ks head tail = (head, tail)

module _ {K : Type 0} {R : K → K → Ordering} (o : IsTotalOrder R) where
  all_above : (k q : K) (ks : List K) → R k q ≡ Less → AllByRecursion (λ r. R q r ≡ Less) ks → AllByRecursion (λ r. R k r ≡ Less) ks
  all_above k q [] lt all = tt
  all_above k q (r ∷ ks) lt all = (o.trans k q r lt all.0, all_above k q ks lt all.1)

module _ {K X : Type 0} {R : K → K → Ordering} (o : IsTotalOrder R) where
  module _ (k : K) (v : X) where
    all_inserted : (P : K → Type 0) (es : List (K × X)) → P k → AllByRecursion P (keys_of es) → AllByRecursion P (keys_of (insert_entry R es k v))
    all_inserted P [] new all = (new, tt)
    all_inserted P (e ∷ es) new all = go (R k e.0) (all_inserted P es new all.1)
      where
        go : (r : Ordering) → AllByRecursion P (keys_of (insert_entry R es k v)) → AllByRecursion P (keys_of (match_ordering r ((k, v) ∷ e ∷ es) ((e.0, v) ∷ es) (e ∷ insert_entry R es k v)))
        go Less rest = (new, all)
        go Equal rest = all
        go Greater rest = (all.0, rest)

    pub rising_inserted : (es : List (K × X)) → IsStrictlySortedBy R (keys_of es) → IsStrictlySortedBy R (keys_of (insert_entry R es k v))
    rising_inserted [] rising = rising_more R k [] tt rising
    rising_inserted (e ∷ es) rising = go (R k e.0) refl (rising_inserted es (sorted_tail R e.0 (keys_of es) rising))
      where
        head : AllByRecursion (λ q. R e.0 q ≡ Less) (keys_of es)
        head = sorted_head R e.0 (keys_of es) rising

        go : (r : Ordering) → R k e.0 ≡ r → IsStrictlySortedBy R (keys_of (insert_entry R es k v))
            → IsStrictlySortedBy R (keys_of (match_ordering r ((k, v) ∷ e ∷ es) ((e.0, v) ∷ es) (e ∷ insert_entry R es k v)))
        go Less is rest = rising_more R k (keys_of (e ∷ es)) (is, all_above o k e.0 (keys_of es) is head) rising
        go Equal is rest = rising
        go Greater is rest = rising_more R e.0 (keys_of (insert_entry R es k v)) (all_inserted (λ q. R e.0 q ≡ Less) es (less o k e.0 is) head) rest

  module _ (test : K → Bool) where
    all_left : (P : K → Type 0) (es : List (K × X)) → AllByRecursion P (keys_of es) → AllByRecursion P (keys_of (remove_entry test es))
    all_left P [] all = tt
    all_left P (e ∷ es) all = go (test e.0) (all_left P es all.1)
      where
        go : (b : Bool) → AllByRecursion P (keys_of (remove_entry test es)) → AllByRecursion P (keys_of (cond b es (e ∷ remove_entry test es)))
        go true rest = all.1
        go false rest = (all.0, rest)

    pub rising_left : (es : List (K × X)) → IsStrictlySortedBy R (keys_of es) → IsStrictlySortedBy R (keys_of (remove_entry test es))
    rising_left [] rising = rising
    rising_left (e ∷ es) rising = go (test e.0) (rising_left es (sorted_tail R e.0 (keys_of es) rising))
      where
        go : (b : Bool) → IsStrictlySortedBy R (keys_of (remove_entry test es)) → IsStrictlySortedBy R (keys_of (cond b es (e ∷ remove_entry test es)))
        go true rest = sorted_tail R e.0 (keys_of es) rising
        go false rest = rising_more R e.0 (keys_of (remove_entry test es)) (all_left (λ q. R e.0 q ≡ Less) es (sorted_head R e.0 (keys_of es) rising)) rest

  module _ (test : K × X → Bool) where
    all_kept : (P : K → Type 0) (es : List (K × X)) → AllByRecursion P (keys_of es) → AllByRecursion P (keys_of (filter test es))
    all_kept P [] all = tt
    all_kept P (e ∷ es) all = go (test e) (all_kept P es all.1)
      where
        go : (b : Bool) → AllByRecursion P (keys_of (filter test es)) → AllByRecursion P (keys_of (cond b (e ∷ filter test es) (filter test es)))
        go true rest = (all.0, rest)
        go false rest = rest

    pub rising_kept : (es : List (K × X)) → IsStrictlySortedBy R (keys_of es) → IsStrictlySortedBy R (keys_of (filter test es))
    rising_kept [] rising = rising
    rising_kept (e ∷ es) rising = go (test e) (rising_kept es (sorted_tail R e.0 (keys_of es) rising))
      where
        go : (b : Bool) → IsStrictlySortedBy R (keys_of (filter test es)) → IsStrictlySortedBy R (keys_of (cond b (e ∷ filter test es) (filter test es)))
        go true rest = rising_more R e.0 (keys_of (filter test es)) (all_kept (λ q. R e.0 q ≡ Less) es (sorted_head R e.0 (keys_of es) rising)) rest
        go false rest = rest

  -- an entry above all goes to the end
  pushed : (es : List (K × X)) (e : K × X) (rest : List (K × X)) → IsStrictlySortedBy R (keys_of (es ++ e ∷ rest)) → insert_entry R es e.0 e.1 ≡ es ++ e ∷ []
  pushed [] e rest rising = refl
  pushed (f ∷ es) e rest rising =
      ap (λ r. match_ordering r (e ∷ f ∷ es) ((f.0, e.1) ∷ es) (f ∷ insert_entry R es e.0 e.1)) (greater o f.0 e.0 (last_is_above R f.0 es e rest (sorted_head R f.0 (keys_of (es ++ e ∷ rest)) rising)))
      ∙ ap (λ l. f ∷ l) (pushed es e rest (sorted_tail R f.0 (keys_of (es ++ e ∷ rest)) rising))

  whole : (es : List (K × X)) (i : ℕ) (d : K × X) → i < length es → take i es ++ get_or es i d ∷ drop (suc i) es ≡ es
  whole [] i d lt = absurd (omega (arith, lt))
  whole (e ∷ es) zero d lt = refl
  whole (e ∷ es) (suc i) d lt = ap (λ l. e ∷ l) (whole es i d (omega (arith, lt)))

  one_more : (es : List (K × X)) (i : ℕ) (d : K × X) → i < length es → take i es ++ get_or es i d ∷ [] ≡ take (suc i) es
  one_more [] i d lt = absurd (omega (arith, lt))
  one_more (e ∷ es) zero d lt = refl
  one_more (e ∷ es) (suc i) d lt = ap (λ l. e ∷ l) (one_more es i d (omega (arith, lt)))

  -- of entries in order the next one goes behind those before it
  pub next_pushed : (es : List (K × X)) → IsStrictlySortedBy R (keys_of es) → (i : ℕ) (e : K × X) → i < length es → e ≡ get_or es i e → insert_entry R (take i es) e.0 e.1 ≡ take (i + 1) es
  next_pushed es rising i e lt is =
      let all : take i es ++ e ∷ drop (suc i) es ≡ es = ap (λ f. take i es ++ f ∷ drop (suc i) es) is ∙ whole es i e lt in
      let next : i + 1 ≡ suc i = omega arith in
      pushed (take i es) e (drop (suc i) es) (subst (λ l. IsStrictlySortedBy R (keys_of l)) (sym all) rising)
      ∙ ap (λ f. take i es ++ f ∷ []) is ∙ one_more es i e lt ∙ ap (λ n. take n es) (sym next)

  -- what was taken out isn't there
  pub none_left : (k : K) (es : List (K × X)) → IsStrictlySortedBy R (keys_of es) → lookup (is_at (R k)) (remove_entry (is_at (R k)) es) ≡ None
  none_left k [] rising = refl
  none_left k (e ∷ es) rising = go (is_eq (R k e.0)) refl (none_left k es (sorted_tail R e.0 (keys_of es) rising))
    where
      go : (b : Bool) → is_eq (R k e.0) ≡ b → lookup (is_at (R k)) (remove_entry (is_at (R k)) es) ≡ None → lookup (is_at (R k)) (cond b es (e ∷ remove_entry (is_at (R k)) es)) ≡ None
      go true is rest = lookup-none (is_at (R k)) es (none_past_head (eq_by_cmp_equiv o) k e es (IsDistinct-from_sorted R (keys_of (e ∷ es)) rising) is)
      go false is rest = ap (λ a. cond a (Some e.1) (lookup (is_at (R k)) (remove_entry (is_at (R k)) es))) is ∙ rest
