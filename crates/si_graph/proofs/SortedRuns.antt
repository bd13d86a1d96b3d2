-- The committed transactions of a history can be put in the order of their commits.
use Rattle.std.proofs.Common.{◌≡◌, ◌≢◌, ◌∙◌, ◌⊎◌, inl, inr, ℕ, ◌≤◌, Bool, true, false, cond, List, [], ◌∷◌, Option, Some, None, refl, sym, ap, subst, nat_lt, arith}
use Rattle.std.specs.List.{Contains, AllPairs}
use Rattle.std.proofs.lemmas.Bool.{ltb-true, ltb-false}
use Rattle.si_model.specs.declared.numbers.Stamp.{Stamp}
use Rattle.si_model.specs.declared.transactions.Status.{Status}
use Rattle.si_model.specs.declared.transactions.Status.TheVariants as status
use Rattle.si_model.specs.declared.transactions.Txn.{Txn}
use Rattle.si_model.specs.Parts.{Present}
use Rattle.si_model.specs.Versions.{commit_of}
use Rattle.si_model.specs.History.{IsHistory}
use Rattle.si_graph.specs.SerialRuns.{MayPrecede, AreInOrder}
use Rattle.si_lists.proofs.Members.{Contains-nil, Contains-cons_cases, Contains-one, here, there}
use Rattle.si_lists.proofs.Names.{Differ, pairs_nil, pairs_head, pairs_tail, pairs_cons}

-- the commit stamp, and 0 without one
stamp_in : Option Stamp → ℕ
stamp_in None = 0
stamp_in (Some c) = c.0

stamp : Txn → ℕ
stamp T = stamp_in (commit_of T.status)

stamp_is : (T : Txn) (c : Stamp) → T.status ≡ status.Committed c → stamp T ≡ c.0
unfolding stamp stamp_in
stamp_is T c e = ap (λ s. stamp_in (commit_of s)) e

-- A is another than B, and its stamp no greater
record GoesFirst (A B : Txn) : Type 0 where
  differ : A.id ≢ B.id
  lower : stamp A ≤ stamp B

may_precede : (A B : Txn) → GoesFirst A B → MayPrecede A B
may_precede A B g = record {
  differ = g.differ;
  before = λ c d a b. (let first = stamp_is A c a in let second = stamp_is B d b in let le = g.lower in omega (arith, first, second, le));
}

insert : Txn → List Txn → List Txn
insert T [] = T ∷ []
insert T (U ∷ us) = cond (nat_lt (stamp U) (stamp T)) (U ∷ insert T us) (T ∷ U ∷ us)

insert_cases : (T : Txn) (us : List Txn) (A : Txn) → Contains (insert T us) A → (T ≡ A) ⊎ Contains us A
unfolding insert
insert_cases T [] A c = inl (Contains-one T A c)
insert_cases T (U ∷ us) A c = go (insert_cases T us A) (nat_lt (stamp U) (stamp T)) c
  where
    go : (Contains (insert T us) A → (T ≡ A) ⊎ Contains us A) → (b : Bool) → Contains (cond b (U ∷ insert T us) (T ∷ U ∷ us)) A → (T ≡ A) ⊎ Contains (U ∷ us) A
    go rest true d = elim (Contains-cons_cases U (insert T us) A d) [
      | inl same ↦ inr (subst (Contains (U ∷ us)) same (here U us))
      | inr more ↦ elim (rest more) [ inl same ↦ inl same | inr old ↦ inr (there U us A old) ]
    ]
    go rest false d = Contains-cons_cases T (U ∷ us) A d

inserted : (T : Txn) (us : List Txn) → Contains (insert T us) T
unfolding insert
inserted T [] = here T []
inserted T (U ∷ us) = go (inserted T us) (nat_lt (stamp U) (stamp T))
  where
    go : Contains (insert T us) T → (b : Bool) → Contains (cond b (U ∷ insert T us) (T ∷ U ∷ us)) T
    go rest true = there U (insert T us) T rest
    go rest false = here T (U ∷ us)

kept : (T : Txn) (us : List Txn) (A : Txn) → Contains us A → Contains (insert T us) A
unfolding insert
kept T [] A c = absurd (Contains-nil A c)
kept T (U ∷ us) A c = go (kept T us A) (nat_lt (stamp U) (stamp T))
  where
    go : (Contains us A → Contains (insert T us) A) → (b : Bool) → Contains (cond b (U ∷ insert T us) (T ∷ U ∷ us)) A
    go rest true = elim (Contains-cons_cases U us A c) [ inl same ↦ subst (Contains (U ∷ insert T us)) same (here U (insert T us)) | inr more ↦ there U (insert T us) A (rest more) ]
    go rest false = there T (U ∷ us) A c

insert_ordered : (T : Txn) (us : List Txn) → ((U : Txn) → Contains us U → T.id ≢ U.id) → AllPairs GoesFirst us → AllPairs GoesFirst (insert T us)
unfolding insert
insert_ordered T [] apart p = pairs_cons GoesFirst T [] (λ A c. absurd (Contains-nil A c)) (pairs_nil GoesFirst)
insert_ordered T (U ∷ us) apart p = go (insert_ordered T us (λ A c. apart A (there U us A c)) (pairs_tail GoesFirst U us p)) (nat_lt (stamp U) (stamp T)) refl
  where
    go : AllPairs GoesFirst (insert T us) → (b : Bool) → nat_lt (stamp U) (stamp T) ≡ b → AllPairs GoesFirst (cond b (U ∷ insert T us) (T ∷ U ∷ us))
    go rest true e = pairs_cons GoesFirst U (insert T us)
        (λ A c. elim (insert_cases T us A c) [
          | inl same ↦ subst (GoesFirst U) same (record { differ = (λ f. apart U (here U us) (sym f)); lower = (let lt = ltb-true (stamp U) (stamp T) e in omega (arith, lt)) })
          | inr old ↦ pairs_head GoesFirst U us p A old
        ])
        rest
    go rest false e = pairs_cons GoesFirst T (U ∷ us)
        (λ A c. elim (Contains-cons_cases U us A c) [
          | inl same ↦ subst (GoesFirst T) same (record { differ = apart U (here U us); lower = ltb-false (stamp U) (stamp T) e })
          | inr old ↦ (let le = ltb-false (stamp U) (stamp T) e in let more = (pairs_head GoesFirst U us p A old).lower in record { differ = apart A (there U us A old); lower = omega (arith, le, more) })
        ])
        p

-- the committed ones of a list, in order
record IsSorted (txns run : List Txn) : Type 0 where
  within : (T : Txn) → Contains run T → Contains txns T × ((c : Stamp) × (T.status ≡ status.Committed c))
  all : (T : Txn) (c : Stamp) → Contains txns T → T.status ≡ status.Committed c → Contains run T
  ordered : AllPairs GoesFirst run

sorted : (txns : List Txn) → AllPairs (Differ (λ (T : Txn). T.id)) txns → (run : List Txn) × IsSorted txns run
sorted [] names = ([], record { within = λ T c. absurd (Contains-nil T c); all = λ T c among is. among; ordered = pairs_nil GoesFirst })
sorted (T ∷ txns) names = by (sorted txns (pairs_tail (Differ (λ (A : Txn). A.id)) T txns names)) T.status refl
  where
    skip : (run : List Txn) → IsSorted txns run → ((c : Stamp) → T.status ≡ status.Committed c → ⊥) → IsSorted (T ∷ txns) run
    skip run s not = record {
      within = λ A c. (let w = s.within A c in (there T txns A w.0, w.1));
      all = λ A c among is. elim (Contains-cons_cases T txns A among) [ inl same ↦ absurd (not c (ap (λ (B : Txn). B.status) same ∙ is)) | inr more ↦ s.all A c more is ];
      ordered = s.ordered;
    }

    by : (run : List Txn) × IsSorted txns run → (k : Status) → T.status ≡ k → (run : List Txn) × IsSorted (T ∷ txns) run
    by r (status.Committed c) is = (
      insert T r.0,
      record {
        within = λ A d. elim (insert_cases T r.0 A d) [
          | inl same ↦ (subst (Contains (T ∷ txns)) same (here T txns), (c, ap (λ (B : Txn). B.status) (sym same) ∙ is))
          | inr old ↦ (let w = r.1.within A old in (there T txns A w.0, w.1))
        ];
        all = λ A d among at. elim (Contains-cons_cases T txns A among) [ inl same ↦ subst (Contains (insert T r.0)) same (inserted T r.0) | inr more ↦ kept T r.0 A (r.1.all A d more at) ];
        ordered = insert_ordered T r.0 (λ U among. pairs_head (Differ (λ (A : Txn). A.id)) T txns names U (r.1.within U among).0) r.1.ordered;
      },
    )
    by r status.Aborted is = (r.0, skip r.0 r.1 (λ c e. (let two = sym is ∙ e in cc)))
    by r status.InDoubt is = (r.0, skip r.0 r.1 (λ c e. (let two = sym is ∙ e in cc)))

pub in_order : (P : Present) → IsHistory P → (run : List Txn) × AreInOrder P run
in_order P h =
    let s = sorted P.txns h.names in (
      s.0,
      record {
        within = λ T c. (let w = s.1.within T c in (w.1.0, record { txn = w.0; committed = w.1.1 }));
        all = λ T c t. s.1.all T c t.txn t.committed;
        ordered = λ i j d lt len. may_precede _ _ (s.1.ordered i j d lt len);
      },
    )
