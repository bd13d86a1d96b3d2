-- The indexes stay exact when a transaction is resolved.
use Rattle.std.proofs.Common.{◌≡◌, ◌⊎◌, inl, inr, ◌↔◌, ℕ, Bool, true, false, List, map, Option, Some, None, refl, sym, ap, subst, ◌∙◌, cond}
use Rattle.std.specs.List.{Contains, list_any}
use Rattle.std.specs.Option.{option_or}
use Rattle.std.proofs.lemmas.Bool.{eqb-false}
use Rattle.si_model.specs.declared.numbers.Stamp.{Stamp}
use Rattle.si_model.specs.declared.numbers.TxnId.{TxnId}
use Rattle.si_model.specs.declared.transactions.Status.{Status}
use Rattle.si_model.specs.declared.transactions.Status.TheVariants as status
use Rattle.si_model.specs.declared.transactions.Outcome.{Outcome}
use Rattle.si_model.specs.declared.transactions.Txn.{Txn}
use Rattle.si_model.specs.declared.refusals.Refusal.{Refusal}
use Rattle.si_model.specs.declared.refusals.Refusal.TheVariants as refusal
use Rattle.si_model.specs.Operations.{same_write}
use Rattle.si_model.specs.Parts.{writes_some}
use Rattle.si_model.specs.Versions.{commit_of}
use Rattle.si_model.specs.Edits.{same_id, with_id, is_in_doubt, status_after, resolved, resolution_refusal}
use Rattle.si_model.proofs.Equalities.{same_id_is}
use Rattle.si_lists.proofs.Members.{Contains-map, Contains-from_map}
use Rattle.si_lists.proofs.Tests.{find-Some}
use Rattle.si_accept.specs.Stamps.{has, SetsPerhaps}
use Rattle.si_accept.specs.Writers.{writer_of}
use Rattle.si_accept.specs.Indexes.{Indexes, AreIndexes, IsExact, StartsAt, CommitsAt, WritesPairOf, SetsStamp, install_of, other_of}
use Rattle.si_accept.proofs.Exact.{exact_changed}
use Rattle.si_accept.proofs.StampChanges.{perhaps_true}

-- the transaction u is present and in doubt
abbrev pub IsDoubtful : List Txn → TxnId → Txn → Type 0
IsDoubtful P u T = Contains P T × (T.id ≡ u) × (commit_of T.status ≡ None)

no_commit : (s : Status) (r : Option Refusal) → option_or (cond (is_in_doubt s) None (Some refusal.NotInDoubt)) r ≡ None → commit_of s ≡ None
no_commit (status.Committed c) r e = cc
no_commit status.Aborted r e = refl
no_commit status.InDoubt r e = refl

-- one that may be resolved
pub doubtful : (P : List Txn) (u : TxnId) (o : Outcome) (T : Txn) → with_id P u ≡ Some T → resolution_refusal P o (with_id P u) ≡ None → IsDoubtful P u T
doubtful P u o T f e =
    let r = find-Some (λ A. same_id A.id u) P T f in
    let g = ap (resolution_refusal P o) (sym f) ∙ e in
    (r.0, same_id_is T.id u r.1, no_commit T.status _ g)

-- what is found, copied
pub found_copy : (P : List Txn) (u : TxnId) (T C : Txn) → with_id P u ≡ Some T → C ≡ T → (C.id ≡ u) × (with_id P u ≡ Some C) × (with_id P C.id ≡ Some C)
found_copy P u T C f e =
    let i = ap (λ A. A.id) e ∙ same_id_is T.id u (find-Some (λ A. same_id A.id u) P T f).1 in
    let g = f ∙ ap Some (sym e) in
    (i, g, ap (with_id P) i ∙ g)

kept_id : (u : TxnId) (o : Outcome) (A : Txn) → (resolved u o A).id ≡ A.id
kept_id u o A = elim (same_id A.id u) as (λ b. (cond b (record A { status = status_after o }) A).id ≡ A.id) [ true ↦ refl | false ↦ refl ]

kept_start : (u : TxnId) (o : Outcome) (A : Txn) → (resolved u o A).start ≡ A.start
kept_start u o A = elim (same_id A.id u) as (λ b. (cond b (record A { status = status_after o }) A).start ≡ A.start) [ true ↦ refl | false ↦ refl ]

kept_ops : (u : TxnId) (o : Outcome) (A : Txn) → (resolved u o A).ops ≡ A.ops
kept_ops u o A = elim (same_id A.id u) as (λ b. (cond b (record A { status = status_after o }) A).ops ≡ A.ops) [ true ↦ refl | false ↦ refl ]

resolved_names : (P : List Txn) (u : TxnId) (o : Outcome) → ((A B : Txn) → Contains P A → Contains P B → A.id ≡ B.id → A ≡ B) → (A B : Txn) → Contains (map (resolved u o) P) A → Contains (map (resolved u o) P) B → A.id ≡ B.id → A ≡ B
resolved_names P u o h A B a b e =
    let r = Contains-from_map (resolved u o) P A a in
    let s = Contains-from_map (resolved u o) P B b in
    let ids = sym (kept_id u o r.0) ∙ ap (λ C. C.id) r.2 ∙ e ∙ ap (λ C. C.id) (sym s.2) ∙ kept_id u o s.0 in
    sym r.2 ∙ ap (resolved u o) (h r.0 s.0 r.1 s.1 ids) ∙ s.2

resolved_starts : (P : List Txn) (I : Indexes) (u : TxnId) (o : Outcome) → AreIndexes P I → IsExact (λ k. has I.starts k.0 k.1 ≡ true) StartsAt (map (resolved u o) P)
resolved_starts P I u o h = exact_changed StartsAt (λ k. has I.starts k.0 k.1 ≡ true) P (resolved u o) (λ A k c. (λ r. (kept_start u o A ∙ r.0, kept_id u o A ∙ r.1), λ r. (sym (kept_start u o A) ∙ r.0, sym (kept_id u o A) ∙ r.1))) h.starts

resolved_writers : (P : List Txn) (I : Indexes) (u : TxnId) (o : Outcome) → AreIndexes P I → IsExact (λ k. writer_of I.written k.0 ≡ Some k.1) WritesPairOf (map (resolved u o) P)
resolved_writers P I u o h = exact_changed WritesPairOf (λ k. writer_of I.written k.0 ≡ Some k.1) P (resolved u o) (λ A k c. (λ r. (ap (list_any (same_write k.0)) (kept_ops u o A) ∙ r.0, kept_id u o A ∙ r.1), λ r. (ap (list_any (same_write k.0)) (sym (kept_ops u o A)) ∙ r.0, sym (kept_id u o A) ∙ r.1))) h.writers

-- a choice of commits, which has nothing of a transaction without one
module _ (choice : Bool → Option Stamp → Option Stamp) (nothing : (b : Bool) → choice b None ≡ None) where
  abbrev chosen : Txn → Option Stamp
  chosen A = choice (writes_some A) (commit_of A.status)

  chosen_of : (u : TxnId) (o : Outcome) (A : Txn) → ((A.id ≡ u) × (chosen (resolved u o A) ≡ choice (writes_some A) (commit_of (status_after o)))) ⊎ ((A.id ≡ u → ⊥) × (chosen (resolved u o A) ≡ chosen A))
  chosen_of u o A = elim (same_id A.id u) as (λ b. same_id A.id u ≡ b → ((A.id ≡ u) × (chosen (cond b (record A { status = status_after o }) A) ≡ choice (writes_some A) (commit_of (status_after o)))) ⊎ ((A.id ≡ u → ⊥) × (chosen (cond b (record A { status = status_after o }) A) ≡ chosen A))) [
    | true ↦ λ e. inl (same_id_is A.id u e, refl)
    | false ↦ λ e. inr (λ i. eqb-false A.id.0 u.0 e (ap (λ v. v.0) i), refl)
  ] refl

  module _ (P : List Txn) (u : TxnId) (o : Outcome) (T : Txn) (names : (A B : Txn) → Contains P A → Contains P B → A.id ≡ B.id → A ≡ B) (d : IsDoubtful P u T) where
    -- of the transaction in doubt nothing was chosen
    unchosen : (A : Txn) (c : Stamp) → Contains P A → A.id ≡ u → chosen A ≡ Some c → ⊥
    unchosen A c m i e =
        let none = ap (λ B. chosen B) (names A T m d.0 (i ∙ sym d.1)) ∙ ap (choice (writes_some T)) d.2 ∙ nothing (writes_some T) in
        (let f = sym none ∙ e in cc)

    pub exact_resolved : (H J : List (ℕ × ℕ)) → IsExact (λ k. has H k.0 k.1 ≡ true) (CommitsAt choice) P → SetsPerhaps (choice (writes_some T) (commit_of (status_after o))) u true H J → IsExact (λ k. has J k.0 k.1 ≡ true) (CommitsAt choice) (map (resolved u o) P)
    exact_resolved H J h s k = (there, back)
      where
        g : (has J k.0 k.1 ≡ true) ↔ ((has H k.0 k.1 ≡ true) ⊎ ((choice (writes_some T) (commit_of (status_after o)) ≡ Some k.0) × (u ≡ k.1)))
        g = perhaps_true (choice (writes_some T) (commit_of (status_after o))) u H J s k

        old : (A : Txn) → Contains P A → CommitsAt choice A k → (A : Txn) × Contains (map (resolved u o) P) A × CommitsAt choice A k
        old A m r = elim (chosen_of u o A) [
          | inl t ↦ absurd (unchosen A k.0 m t.0 r.0)
          | inr t ↦ (resolved u o A, Contains-map (resolved u o) P A m, (t.1 ∙ r.0, kept_id u o A ∙ r.1))
        ]

        now : choice (writes_some T) (commit_of (status_after o)) ≡ Some k.0 → chosen (resolved u o T) ≡ Some k.0
        now e = elim (chosen_of u o T) [ inl t ↦ t.1 ∙ e | inr t ↦ absurd (t.0 d.1) ]

        there : has J k.0 k.1 ≡ true → (A : Txn) × Contains (map (resolved u o) P) A × CommitsAt choice A k
        there i = elim (g.0 i) [
          | inl w ↦ (let r = (h k).0 w in old r.0 r.1 r.2)
          | inr a ↦ (resolved u o T, Contains-map (resolved u o) P T d.0, (now a.0, kept_id u o T ∙ d.1 ∙ a.1))
        ]

        from : (A : Txn) → Contains P A → chosen (resolved u o A) ≡ Some k.0 → A.id ≡ k.1 → has J k.0 k.1 ≡ true
        from A m f i = elim (chosen_of u o A) [
          | inl t ↦ g.1 (inr (ap (λ B. choice (writes_some B) (commit_of (status_after o))) (names T A d.0 m (d.1 ∙ sym t.0)) ∙ sym t.1 ∙ f, sym t.0 ∙ i))
          | inr t ↦ g.1 (inl ((h k).1 (A, m, (sym t.1 ∙ f, i))))
        ]

        back : (A : Txn) × Contains (map (resolved u o) P) A × CommitsAt choice A k → has J k.0 k.1 ≡ true
        back r =
            let m = Contains-from_map (resolved u o) P r.0 r.1 in
            from m.0 m.1 (ap (λ A. chosen A) m.2 ∙ r.2.0) (sym (kept_id u o m.0) ∙ ap (λ A. A.id) m.2 ∙ r.2.1)

no_install : (b : Bool) → install_of b None ≡ None
no_install true = refl
no_install false = refl

no_other : (b : Bool) → other_of b None ≡ None
no_other true = refl
no_other false = refl

pub indexed_resolved : (P : List Txn) (I J : Indexes) (u : TxnId) (o : Outcome) (T : Txn) → AreIndexes P I → IsDoubtful P u T → SetsStamp (writes_some T) (commit_of (status_after o)) u true I J → J ≡ record I { installs = J.installs; others = J.others } → AreIndexes (map (resolved u o) P) J
indexed_resolved P I J u o T h d s e = subst (AreIndexes (map (resolved u o) P)) (sym e) (record {
  names = resolved_names P u o h.names;
  starts = resolved_starts P I u o h;
  installs = exact_resolved install_of no_install P u o T h.names d I.installs J.installs h.installs s.installs;
  others = exact_resolved other_of no_other P u o T h.names d I.others J.others h.others s.others;
  writers = resolved_writers P I u o h;
})
