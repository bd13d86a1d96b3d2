-- Pairs of a stamp and an id as the keys of a map in their order.
use Rattle.std.proofs.Common.{◌≡◌, ◌≢◌, ◌∙◌, inl, inr, ℕ, ◌≤◌, Bool, true, false, ◌||◌, ◌&&◌, cond, nat_eq, List, [], ◌∷◌, Option, Some, None, refl, sym, ap, subst, arith}
use Rattle.std.proofs.lemmas.Bool.{and_parts}
use Rattle.std.proofs.lemmas.Bool.Decides.{nat_tests}
use Rattle.std.proofs.lemmas.Map.Views.{Contains-from_any}
use Rattle.std.specs.List.{Contains, list_any}
use Rattle.std.specs.Map.{keys_of}
use Rattle.std.specs.Option.{is_some}
use Rattle.std.specs.Ordering.{is_eq, is_gt, nat_cmp, ordering_then}
use Rattle.std.specs.declared.cmp.Ordering.{Ordering}
use Rattle.si_lists.proofs.Members.{Contains-cons_cases, Contains-from_map, Contains-map, Contains-nil}
use Rattle.si_model.specs.declared.numbers.Stamp.{Stamp}
use Rattle.si_model.specs.declared.numbers.TxnId.{TxnId}
use Rattle.si_sorted.specs.Entries.{IsFirstFrom, Sets as SetsEntry, value_at}
use Rattle.si_accept.specs.Stamps.{IsLeast, Sets, has, same_pair}

abbrev Entries : Type 0
Entries = List ((ℕ × ℕ) × Unit {0})

-- ---- the order of pairs

abbrev pub pair_cmp : ℕ × ℕ → ℕ × ℕ → Ordering
pair_cmp a b = ordering_then (nat_cmp a.0 b.0) (nat_cmp a.1 b.1)

tied : (a b c d : ℕ) → is_eq (ordering_then (nat_cmp a b) (nat_cmp c d)) ≡ (nat_eq a b && nat_eq c d)
tied a b c d = grind (arith, nat_tests)

same_pair_tied : (p q : ℕ × ℕ) → is_eq (pair_cmp p q) ≡ same_pair p q
same_pair_tied p q = tied p.0 q.0 p.1 q.1

-- ---- whether a pair is a key

-- a pair is a key where something stands under it
held : (es : Entries) (p : ℕ × ℕ) → is_some (value_at pair_cmp es p) ≡ list_any (same_pair p) (keys_of es)
held [] p = refl
held (e ∷ es) p = go (is_eq (pair_cmp p e.0)) (same_pair p e.0) (same_pair_tied p e.0) (held es p)
  where
    go : (a b : Bool) → a ≡ b → is_some (value_at pair_cmp es p) ≡ list_any (same_pair p) (keys_of es)
        → is_some (cond a (Some e.1) (value_at pair_cmp es p)) ≡ b || list_any (same_pair p) (keys_of es)
    go true true is rest = refl
    go true false is rest = cc
    go false true is rest = cc
    go false false is rest = rest

-- a map that changed at one pair
pub set_at : (old new : Entries) (s : Stamp) (u : TxnId) (o : Option (Unit {0})) → SetsEntry pair_cmp (s.0, u.0) o old new → Sets s u (is_some o) (keys_of old) (keys_of new)
set_at old new s u o h t w =
    sym (held new (t.0, w.0)) ∙ ap is_some (h (t.0, w.0))
    ∙ go (is_eq (pair_cmp (s.0, u.0) (t.0, w.0))) (same_pair (s.0, u.0) (t.0, w.0)) (same_pair_tied (s.0, u.0) (t.0, w.0)) (held old (t.0, w.0))
  where
    go : (a b : Bool) → a ≡ b → is_some (value_at pair_cmp old (t.0, w.0)) ≡ list_any (same_pair (t.0, w.0)) (keys_of old)
        → is_some (cond a o (value_at pair_cmp old (t.0, w.0))) ≡ cond b (is_some o) (list_any (same_pair (t.0, w.0)) (keys_of old))
    go true true is was = refl
    go true false is was = cc
    go false true is was = cc
    go false false is was = was

-- ---- the least id of a stamp

pair_by : (p q : ℕ × ℕ) → p.0 ≡ q.0 → p.1 ≡ q.1 → p ≡ q
pair_by p q f g = ap (λ n. (n, p.1)) f ∙ ap (λ n. (q.0, n)) g

same_pair_is : (p q : ℕ × ℕ) → same_pair p q ≡ true → p ≡ q
same_pair_is p q e = (let h = and_parts (nat_eq p.0 q.0) (nat_eq p.1 q.1) e in let f : p.0 ≡ q.0 = grind (arith, nat_tests) in let g : p.1 ≡ q.1 = grind (arith, nat_tests) in pair_by p q f g)

same_pair_itself : (p : ℕ × ℕ) → same_pair p p ≡ true
same_pair_itself p = sym (same_pair_tied p p) ∙ grind (arith, nat_tests)

or_true : (b c : Bool) → c ≡ true → b || c ≡ true
or_true true c t = refl
or_true false c t = t

any_from : (ks : List (ℕ × ℕ)) (p : ℕ × ℕ) → Contains ks p → list_any (same_pair p) ks ≡ true
any_from [] p c = absurd (Contains-nil p c)
any_from (k ∷ ks) p c = elim (Contains-cons_cases k ks p c) [
  | inl is ↦ ap (λ b. b || list_any (same_pair p) ks) (ap (same_pair p) is ∙ same_pair_itself p)
  | inr later ↦ or_true (same_pair p k) (list_any (same_pair p) ks) (any_from ks p later)
]

not_before : (s u : ℕ) → is_gt (pair_cmp (s, 0) (s, u)) ≡ false
not_before s u = grind (arith, nat_tests)

first_is_least : (s u w : ℕ) → is_gt (pair_cmp (s, u) (s, w)) ≡ false → u ≤ w
first_is_least s u w h = grind (arith, nat_tests)

-- nothing of a stamp comes after a later stamp
none_between : (t u s w : ℕ) → is_gt (pair_cmp (s, 0) (t, u)) ≡ false → is_gt (pair_cmp (t, u) (s, w)) ≡ false → t ≡ s
none_between t u s w h k = grind (arith, nat_tests)

not_true : (b : Bool) → (b ≡ true → ⊥) → b ≡ false
not_true true h = absurd (h refl)
not_true false h = refl

module _ (es : Entries) (s : Stamp) where
  entry_of : (w : TxnId) → has (keys_of es) s w ≡ true → Contains es ((s.0, w.0), tt)
  entry_of w t = (let k = Contains-from_map (λ (e : (ℕ × ℕ) × Unit {0}). e.0) es (s.0, w.0) (Contains-from_any same_pair_is (s.0, w.0) (keys_of es) t) in subst (λ p. Contains es (p, tt)) k.2 k.1)

  module _ (e : (ℕ × ℕ) × Unit {0}) (first : IsFirstFrom pair_cmp es (s.0, 0) (Some e)) where
    below : (w : TxnId) → has (keys_of es) s w ≡ true → is_gt (pair_cmp e.0 (s.0, w.0)) ≡ false
    below w t = first.2 ((s.0, w.0), tt) (entry_of w t) (not_before s.0 w.0)

    pub first_found : e.0.0 ≡ s.0 → IsLeast (has (keys_of es) s) (Some (record { 0 = e.0.1 }))
    first_found at = (
      any_from (keys_of es) (s.0, e.0.1) (subst (Contains (keys_of es)) (ap (λ n. (n, e.0.1)) at) (Contains-map (λ (x : (ℕ × ℕ) × Unit {0}). x.0) es e first.0)),
      λ w t. first_is_least s.0 e.0.1 w.0 (subst (λ n. is_gt (pair_cmp (n, e.0.1) (s.0, w.0)) ≡ false) at (below w t)),
    )

    pub later_found : e.0.0 ≢ s.0 → IsLeast (has (keys_of es) s) None
    later_found differ w = not_true _ (λ t. differ (none_between e.0.0 e.0.1 s.0 w.0 first.1 (below w t)))

  pub none_found : IsFirstFrom pair_cmp es (s.0, 0) None → IsLeast (has (keys_of es) s) None
  none_found last w = not_true _ (λ t. (let f = last ((s.0, w.0), tt) (entry_of w t) in let g = not_before s.0 w.0 in let h = ap is_gt f in cc))
