-- What is carried over a horizon of one transaction, and of its writes.
use Rattle.std.proofs.Common.{◌≡◌, ◌⊎◌, inl, inr, ℕ, ◌<◌, ◌≤◌, Bool, true, false, nat_lt, List, Option, Some, None, refl, sym, ap, subst, ◌∙◌, arith, cond}
use Rattle.std.specs.List.{filter}
use Rattle.std.proofs.lemmas.Bool.{cases_lt, ltb-true, ltb-false}
use Rattle.si_model.specs.declared.numbers.Stamp.{Stamp}
use Rattle.si_model.specs.declared.numbers.Value.{Value}
use Rattle.si_model.specs.declared.operations.Op.TheVariants as op
use Rattle.si_model.specs.declared.transactions.Status.{Status}
use Rattle.si_model.specs.declared.transactions.Status.TheVariants as status
use Rattle.si_model.specs.declared.transactions.Txn.{Txn}
use Rattle.si_model.specs.Operations.{is_write}
use Rattle.si_model.specs.History.{WritesPairAt}
use Rattle.si_model.specs.Horizons.{IsGone, IsSpanning, IsRest, IsLastWriteOf, rest, rest_by, writes_alone}
use Rattle.si_lists.proofs.Members.{same_some, get_contains, contains_get, Contains-filter, Contains-from_filter}
use Rattle.si_model.proofs.Histories.{same_commit}
use Rattle.si_model.proofs.Reasons.{places_equal}
use Rattle.si_model.proofs.Filtered.{before_from, before_to}

-- U is what is carried over of T, which isn't gone
abbrev pub IsCarriedOf : Stamp → Txn → Txn → Type 0
IsCarriedOf H T U = (IsGone H T → ⊥) × IsRest H T U

spanning_rest : (H : Stamp) (T : Txn) → IsSpanning H T → IsRest H T (writes_alone T)
spanning_rest H T s = record { writes = λ t. refl; whole = λ n. absurd (n s) }

whole_rest : (H : Stamp) (T : Txn) → (IsSpanning H T → ⊥) → IsRest H T T
whole_rest H T n = record { writes = λ s. absurd (n s); whole = λ m. refl }

-- ---- the function is what the relation says

rest_is : (H : Stamp) (T U : Txn) → rest H T ≡ Some U → IsCarriedOf H T U
rest_is H T U e = by T.status refl e
  where
    committed : (c : Stamp) → T.status ≡ status.Committed c → H.0 ≤ c.0 → IsGone H T → ⊥
    committed c s past (inl g) = let same = ap (λ t. t.0) (same_commit g.0 c (sym g.1 ∙ s)) in let below = g.2 in omega arith
    committed c s past (inr g) = let wrong = sym s ∙ g.0 in cc

    kept : (c : Stamp) → T.status ≡ status.Committed c → H.0 ≤ c.0 → (b : Bool) → nat_lt T.start.0 H.0 ≡ b → cond b (writes_alone T) T ≡ U → IsRest H T U
    kept c s past true t f = subst (IsRest H T) f (spanning_rest H T (c, s, ltb-true T.start.0 H.0 t, past))
    kept c s past false t f = subst (IsRest H T) f (whole_rest H T (λ n. let less = n.2 in let more = ltb-false T.start.0 H.0 t in omega arith))

    by : (s : Status) → T.status ≡ s → rest_by H T s ≡ Some U → IsCarriedOf H T U
    by (status.Committed c) s f = tested (nat_lt c.0 H.0) refl f
      where
        tested : (b : Bool) → nat_lt c.0 H.0 ≡ b → cond b None (Some (cond (nat_lt T.start.0 H.0) (writes_alone T) T)) ≡ Some U → IsCarriedOf H T U
        tested true t f = cc
        tested false t f = let past = ltb-false c.0 H.0 t in (committed c s past, kept c s past (nat_lt T.start.0 H.0) refl (same_some f))
    by status.Aborted s f = tested (nat_lt T.start.0 H.0) refl f
      where
        gone : H.0 ≤ T.start.0 → IsGone H T → ⊥
        gone past (inl g) = let wrong = sym s ∙ g.1 in cc
        gone past (inr g) = let less = g.1 in omega arith

        tested : (b : Bool) → nat_lt T.start.0 H.0 ≡ b → cond b None (Some T) ≡ Some U → IsCarriedOf H T U
        tested true t f = cc
        tested false t f = (gone (ltb-false T.start.0 H.0 t), subst (IsRest H T) (same_some f) (whole_rest H T (λ n. let wrong = sym s ∙ n.1 in cc)))
    by status.InDoubt s f = (gone, subst (IsRest H T) (same_some f) (whole_rest H T (λ n. let wrong = sym s ∙ n.1 in cc)))
      where
        gone : IsGone H T → ⊥
        gone (inl g) = let wrong = sym s ∙ g.1 in cc
        gone (inr g) = let wrong = sym s ∙ g.0 in cc

rest_some : (H : Stamp) (T U : Txn) → IsCarriedOf H T U → rest H T ≡ Some U
rest_some H T U is = by T.status refl
  where
    by : (s : Status) → T.status ≡ s → rest_by H T s ≡ Some U
    by (status.Committed c) s = tested (nat_lt c.0 H.0) refl (nat_lt T.start.0 H.0) refl
      where
        tested : (b : Bool) → nat_lt c.0 H.0 ≡ b → (d : Bool) → nat_lt T.start.0 H.0 ≡ d → cond b None (Some (cond d (writes_alone T) T)) ≡ Some U
        tested true t d u = absurd (is.0 (inl (c, s, ltb-true c.0 H.0 t)))
        tested false t true u = ap Some (sym (is.1.writes (c, s, ltb-true T.start.0 H.0 u, ltb-false c.0 H.0 t)))
        tested false t false u = ap Some (sym (is.1.whole (λ n. let less = n.2 in let more = ltb-false T.start.0 H.0 u in omega arith)))
    by status.Aborted s = tested (nat_lt T.start.0 H.0) refl
      where
        tested : (b : Bool) → nat_lt T.start.0 H.0 ≡ b → cond b None (Some T) ≡ Some U
        tested true t = absurd (is.0 (inr (s, ltb-true T.start.0 H.0 t)))
        tested false t = ap Some (sym (is.1.whole (λ n. let wrong = sym s ∙ n.1 in cc)))
    by status.InDoubt s = ap Some (sym (is.1.whole (λ n. let wrong = sym s ∙ n.1 in cc)))

pub rest_exact : (H : Stamp) (T U : Txn) → (rest H T ≡ Some U → IsCarriedOf H T U) × (IsCarriedOf H T U → rest H T ≡ Some U)
rest_exact H T U = (rest_is H T U, rest_some H T U)

-- a transaction spans the horizon or it doesn't
pub spans : (H : Stamp) (T : Txn) → IsSpanning H T ⊎ (IsSpanning H T → ⊥)
spans H T = by T.status refl
  where
    by : (s : Status) → T.status ≡ s → IsSpanning H T ⊎ (IsSpanning H T → ⊥)
    by (status.Committed c) s = elim (cases_lt T.start.0 H.0) [
      | inl less ↦ elim (cases_lt c.0 H.0) [
        | inl below ↦ inr (λ n. let same = ap (λ t. t.0) (same_commit n.0 c (sym n.1 ∙ s)) in let past = n.3 in omega arith)
        | inr past ↦ inl (c, s, less, past)
      ]
      | inr more ↦ inr (λ n. let less = n.2 in omega arith)
    ]
    by status.Aborted s = inr (λ n. let wrong = sym s ∙ n.1 in cc)
    by status.InDoubt s = inr (λ n. let wrong = sym s ∙ n.1 in cc)

-- each transaction that isn't gone has a rest
pub some_rest : (H : Stamp) (T : Txn) → (IsGone H T → ⊥) → (U : Txn) × (rest H T ≡ Some U)
some_rest H T stays = by (rest H T) refl
  where
    none : rest H T ≡ None → ⊥
    none e = whole (λ s. let wrong = sym e ∙ rest_some H T (writes_alone T) (stays, spanning_rest H T s) in cc)
      where
        whole : (IsSpanning H T → ⊥) → ⊥
        whole n = let wrong = sym e ∙ rest_some H T T (stays, whole_rest H T n) in cc

    by : (o : Option Txn) → rest H T ≡ o → (U : Txn) × (o ≡ Some U)
    by None e = absurd (none e)
    by (Some U) e = (U, refl)

-- ---- what the two have in common

-- U has T's id and stamps and writes the same pairs in the same order
pub record Carries (T U : Txn) : Type 0 where
  pub id : U.id ≡ T.id
  pub start : U.start ≡ T.start
  pub status : U.status ≡ T.status
  pub to : (i : ℕ) (x : List ℕ) (v : Value) → WritesPairAt T i x v → (j : ℕ) × WritesPairAt U j x v
  pub from : (j : ℕ) (x : List ℕ) (v : Value) → WritesPairAt U j x v → (i : ℕ) × WritesPairAt T i x v
  pub up : (i j : ℕ) (x y : List ℕ) (v w : Value) → i < j → WritesPairAt T i x v → WritesPairAt T j y w → (k : ℕ) × (l : ℕ) × (k < l) × WritesPairAt U k x v × WritesPairAt U l y w
  pub down : (i j : ℕ) (x y : List ℕ) (v w : Value) → i < j → WritesPairAt U i x v → WritesPairAt U j y w → (k : ℕ) × (l : ℕ) × (k < l) × WritesPairAt T k x v × WritesPairAt T l y w

carries_writes : (T : Txn) → Carries T (writes_alone T)
carries_writes T = record {
  id = refl;
  start = refl;
  status = refl;
  to = λ i x v w. contains_get (filter is_write T.ops) (op.Write x v) (Contains-filter is_write T.ops (op.Write x v) (get_contains T.ops i (op.Write x v) w) refl);
  from = λ j x v w. contains_get T.ops (op.Write x v) (Contains-from_filter is_write T.ops (op.Write x v) (get_contains (filter is_write T.ops) j (op.Write x v) w)).0;
  up = λ i j x y v w less a b. before_to is_write T.ops (op.Write x v) (op.Write y w) refl refl i j less a b;
  down = λ i j x y v w less a b. before_from is_write T.ops (op.Write x v) (op.Write y w) i j less a b;
}

carries_itself : (T : Txn) → Carries T T
carries_itself T = record {
  id = refl;
  start = refl;
  status = refl;
  to = λ i x v w. (i, w);
  from = λ j x v w. (j, w);
  up = λ i j x y v w less a b. (i, j, less, a, b);
  down = λ i j x y v w less a b. (i, j, less, a, b);
}

-- what is carried over of T carries it
pub carries_rest : (H : Stamp) (T U : Txn) → rest H T ≡ Some U → Carries T U
carries_rest H T U e = by T.status e
  where
    kept : (b : Bool) → cond b (writes_alone T) T ≡ U → Carries T U
    kept true f = subst (Carries T) f (carries_writes T)
    kept false f = subst (Carries T) f (carries_itself T)

    by : (s : Status) → rest_by H T s ≡ Some U → Carries T U
    by (status.Committed c) f = tested (nat_lt c.0 H.0) f
      where
        tested : (b : Bool) → cond b None (Some (cond (nat_lt T.start.0 H.0) (writes_alone T) T)) ≡ Some U → Carries T U
        tested true f = cc
        tested false f = kept (nat_lt T.start.0 H.0) (same_some f)
    by status.Aborted f = tested (nat_lt T.start.0 H.0) f
      where
        tested : (b : Bool) → cond b None (Some T) ≡ Some U → Carries T U
        tested true f = cc
        tested false f = subst (Carries T) (same_some f) (carries_itself T)
    by status.InDoubt f = subst (Carries T) (same_some f) (carries_itself T)

-- ---- writes of what is carried

-- T writes each pair once
abbrev pub WritesOnce : Txn → Type 0
WritesOnce T = (i j : ℕ) (x : List ℕ) (v : Value) → WritesPairAt T i x v → WritesPairAt T j x v → i ≡ j

module _ (T U : Txn) (c : Carries T U) (once : WritesOnce T) where
  pub carried_once : WritesOnce U
  carried_once i j x v a b = places_equal i j
      (λ l. (let d = c.down i j x x v v l a b in let same = once d.0 d.1 x v d.3 d.4 in let less = d.2 in omega arith))
      (λ l. (let d = c.down j i x x v v l b a in let same = once d.0 d.1 x v d.3 d.4 in let less = d.2 in omega arith))

  pub last_write_to : (x : List ℕ) (v : Value) → IsLastWriteOf T x v → IsLastWriteOf U x v
  last_write_to x v f = let p = c.to f.place x v f.is in record {
    place = p.0;
    is = p.1;
    last = λ j w a. elim (cases_lt p.0 j) [
      | inr le ↦ le
      | inl gt ↦ (let d = c.down p.0 j x x v w gt p.1 a in
          let same = once d.0 f.place x v d.3 f.is in let most = f.last d.1 w d.4 in let less = d.2 in absurd (omega arith))
    ];
  }

  pub last_write_from : (x : List ℕ) (v : Value) → IsLastWriteOf U x v → IsLastWriteOf T x v
  last_write_from x v f = let p = c.from f.place x v f.is in record {
    place = p.0;
    is = p.1;
    last = λ j w a. elim (cases_lt p.0 j) [
      | inr le ↦ le
      | inl gt ↦ (let d = c.up p.0 j x x v w gt p.1 a in
          let same = carried_once d.0 f.place x v d.3 f.is in let most = f.last d.1 w d.4 in let less = d.2 in absurd (omega arith))
    ];
  }
