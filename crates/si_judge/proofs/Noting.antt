-- How often a kind is found before and after what stands in one place is another.
use Rattle.std.proofs.Common.{◌≡◌, ◌∙◌, ℕ, ◌+◌, Bool, true, false, cond, List, [], ◌∷◌, Some, None, Option, Ordering, refl, sym, ap, subst, arith, unwrap_or, is_some, true≢false}
use Rattle.std.specs.BTreeMap.{is_at}
use Rattle.std.specs.Cmp.{IsTotalOrder, eq_by_cmp_equiv}
use Rattle.std.specs.List.{AllByRecursion, Contains, sum_by}
use Rattle.std.specs.List.Sorted.{IsStrictlySortedBy}
use Rattle.std.specs.Map.{keys_of, remove_entry, values_of}
use Rattle.std.specs.Option.{option_map, option_to_list}
use Rattle.std.specs.Ordering.{eq_by_cmp}
use Rattle.std.specs.declared.cmp.Ordering.TheVariants.{Less}
use Rattle.std.proofs.lemmas.Cmp.{on_total}
use Rattle.std.proofs.lemmas.List.Sums.{sum_by-cons}
use Rattle.std.proofs.lemmas.Map.Entries.{sum_by-remove_entry}
use Rattle.std.proofs.lemmas.Map.Keys.{IsDistinct-from_sorted}
use Rattle.std.proofs.lemmas.Map.Views.{lookup-from_Contains}
use Rattle.si_lists.proofs.Members.{here, same_some, there}
use Rattle.si_model.specs.declared.kinds.Kind.{Kind}
use Rattle.si_model.specs.declared.numbers.Stamp.{Stamp}
use Rattle.si_model.specs.Order.{kind_eq}
use Rattle.si_model.proofs.InOrder.{below_rest, rest_sorted, same_sorted, sorted-cons, sorted-nil}
use Rattle.si_sorted.specs.Entries.{Sets, value_at}
use Rattle.si_sorted.proofs.Lookups.{left_after}
use Rattle.si_sorted.proofs.Rising.{rising_left}
use Rattle.si_judge.specs.declared.judgements.ReadId.{ReadId}
use Rattle.si_judge.specs.Kept.{Noted}
use Rattle.si_judge.specs.Mending.{read_cmp, stamp_cmp}
use Rattle.si_judge.specs.Notes.{IsNoted, WasFound, times, times_found}
use Rattle.si_judge.proofs.Listed.{read_total, stamp_total}
use Rattle.si_judge.proofs.Orders.{Decides, read_decides, stamp_decides}

-- ---- entries in order are told by what stands under each key

module _ {K X : Type 0} {R : K → K → Ordering} (o : IsTotalOrder R) (decides : Decides R) where
  rising_entries : (es : List (K × X)) → IsStrictlySortedBy R (keys_of es) → IsStrictlySortedBy (λ (a b : K × X). R a.0 b.0) es
  rising_entries [] s = sorted-nil (λ (a b : K × X). R a.0 b.0)
  rising_entries (e ∷ es) s = sorted-cons (λ (a b : K × X). R a.0 b.0) e es (above es (below_rest R e.0 (keys_of es) s)) (rising_entries es (rest_sorted R e.0 (keys_of es) s))
    where
      above : (ds : List (K × X)) → AllByRecursion (λ q. R e.0 q ≡ Less) (keys_of ds) → AllByRecursion (λ (d : K × X). R e.0 d.0 ≡ Less) ds
      above [] all = tt
      above (d ∷ ds) all = (all.0, above ds all.1)

  member : (es : List (K × X)) (k : K) (x : X) → value_at R es k ≡ Some x → Contains es (k, x)
  member [] k x e = absurd (true≢false (sym (ap is_some e)))
  member (d ∷ es) k x e = by (is_at (R k) d.0) refl e (member es k x)
    where
      by : (b : Bool) → is_at (R k) d.0 ≡ b → cond b (Some d.1) (value_at R es k) ≡ Some x → (value_at R es k ≡ Some x → Contains es (k, x)) → Contains (d ∷ es) (k, x)
      by true at s rest =
          let key : k ≡ d.0 = (decides k d.0).0 at in
          let value : d.1 ≡ x = same_some s in
          let same : d ≡ (k, x) = λ i. (sym key i, value i) in
          subst (Contains (d ∷ es)) same (here d es)
      by false at s rest = there d es (k, x) (rest s)

  pub entries_same : (es ds : List (K × X)) → IsStrictlySortedBy R (keys_of es) → IsStrictlySortedBy R (keys_of ds) → ((q : K) → value_at R es q ≡ value_at R ds q) → es ≡ ds
  entries_same es ds rise rises same = same_sorted (on_total (λ (e : K × X). e.0) o) es ds (rising_entries es rise) (rising_entries ds rises)
      (moves es ds rise same) (moves ds es rises (λ q. sym (same q)))
    where
      moves : (fs gs : List (K × X)) → IsStrictlySortedBy R (keys_of fs) → ((q : K) → value_at R fs q ≡ value_at R gs q) → (e : K × X) → Contains fs e → Contains gs e
      moves fs gs s alike e c = member gs e.0 e.1 (sym (alike e.0) ∙ lookup-from_Contains (eq_by_cmp_equiv o) e.0 e.1 fs (IsDistinct-from_sorted R (keys_of fs) s) c)

  -- a sum over the values is that of the others and of what stands under the key
  pub parted : (f : X → ℕ) (k : K) (v : Option X) (old new : List (K × X)) → IsStrictlySortedBy R (keys_of old) → IsStrictlySortedBy R (keys_of new) → Sets R k v old new
      → (r : ℕ) × (sum_by f (values_of old) ≡ r + unwrap_or (option_map f (value_at R old k)) 0) × (sum_by f (values_of new) ≡ r + unwrap_or (option_map f v) 0)
  parted f k v old new rose rises sets = (
    sum_by f (values_of (remove_entry (is_at (R k)) old)),
    sym (sum_by-remove_entry f (is_at (R k)) old),
    sym (sum_by-remove_entry f (is_at (R k)) new) ∙ ap (λ l. sum_by f (values_of l) + unwrap_or (option_map f (value_at R new k)) 0) (sym others)
        ∙ ap (λ w. sum_by f (values_of (remove_entry (is_at (R k)) old)) + unwrap_or (option_map f w) 0) (sets k ∙ ap (λ b. cond b v (value_at R old k)) ((decides k k).1 refl)),
  )
    where
      elsewhere : (q : K) (b : Bool) → eq_by_cmp R k q ≡ b → cond (eq_by_cmp R k q) None (value_at R old q) ≡ cond (eq_by_cmp R k q) None (value_at R new q)
      elsewhere q true at = ap (λ b. cond b None (value_at R old q)) at ∙ sym (ap (λ b. cond b None (value_at R new q)) at)
      elsewhere q false at = ap (cond (eq_by_cmp R k q) None) (sym (sets q ∙ ap (λ b. cond b v (value_at R old q)) at))

      others : remove_entry (is_at (R k)) old ≡ remove_entry (is_at (R k)) new
      others = entries_same (remove_entry (is_at (R k)) old) (remove_entry (is_at (R k)) new) (rising_left o (is_at (R k)) old rose) (rising_left o (is_at (R k)) new rises)
          (λ q. left_after o k q old rose ∙ elsewhere q (eq_by_cmp R k q) refl ∙ sym (left_after o k q new rises))

-- ---- what is noted is the difference

times_one : (k : Kind) (v : Option Kind) → times k (option_to_list v) ≡ unwrap_or (option_map (λ x. cond (kind_eq k x) 1 0) v) 0
times_one k None = refl
times_one k (Some x) = sum_by-cons (λ y. cond (kind_eq k y) 1 0) x [] ∙ (let e : cond (kind_eq k x) 1 0 + 0 ≡ cond (kind_eq k x) 1 0 = omega arith in e)

-- where nothing is noted nothing is known
pub unnoted : (notes : Noted) (k : Kind) (n m : ℕ) → is_some notes ≡ false → WasFound notes k n m → ⊥
unnoted None k n m e w = w
unnoted (Some b) k n m e w = absurd (true≢false e)

renumbered : (notes : Noted) (k : Kind) (n : ℕ) {l m : ℕ} → l ≡ m → WasFound notes k n l → WasFound notes k n m
renumbered notes k n e w = subst (WasFound notes k n) e w

pub noted_read : (o : ReadId) (v : Option Kind) (old new : List (ReadId × Kind)) (overlaps : List (Stamp × Kind)) (notes more : Noted)
    → IsStrictlySortedBy read_cmp (keys_of old) → IsStrictlySortedBy read_cmp (keys_of new) → Sets read_cmp o v old new → IsNoted (value_at read_cmp old o) v notes more
    → (k : Kind) (n : ℕ) → WasFound notes k n (times_found k old overlaps) → WasFound more k n (times_found k new overlaps)
noted_read o v old new overlaps notes more rose rises sets noted k n was =
    let f : Kind → ℕ = λ x. cond (kind_eq k x) 1 0 in
    let p = parted read_total read_decides f o v old new rose rises sets in
    let pairs = times k (values_of overlaps) in
    renumbered more k n (let e : (p.0 + pairs) + times k (option_to_list v) ≡ times_found k new overlaps = omega (arith, p.2, times_one k v) in e)
    (noted k n (p.0 + pairs) (renumbered notes k n (let e : times_found k old overlaps ≡ (p.0 + pairs) + times k (option_to_list (value_at read_cmp old o)) = omega (arith, p.1, times_one k (value_at read_cmp old o)) in e) was))

pub noted_pair : (c : Stamp) (v : Option Kind) (old new : List (Stamp × Kind)) (reads : List (ReadId × Kind)) (notes more : Noted)
    → IsStrictlySortedBy stamp_cmp (keys_of old) → IsStrictlySortedBy stamp_cmp (keys_of new) → Sets stamp_cmp c v old new → IsNoted (value_at stamp_cmp old c) v notes more
    → (k : Kind) (n : ℕ) → WasFound notes k n (times_found k reads old) → WasFound more k n (times_found k reads new)
noted_pair c v old new reads notes more rose rises sets noted k n was =
    let f : Kind → ℕ = λ x. cond (kind_eq k x) 1 0 in
    let p = parted stamp_total stamp_decides f c v old new rose rises sets in
    let others = times k (values_of reads) in
    renumbered more k n (let e : (p.0 + others) + times k (option_to_list v) ≡ times_found k reads new = omega (arith, p.2, times_one k v) in e)
    (noted k n (p.0 + others) (renumbered notes k n (let e : times_found k reads old ≡ (p.0 + others) + times k (option_to_list (value_at stamp_cmp old c)) = omega (arith, p.1, times_one k (value_at stamp_cmp old c)) in e) was))
