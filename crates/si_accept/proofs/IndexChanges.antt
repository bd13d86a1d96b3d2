-- The indexes stay exact when a transaction arrives or is withdrawn.
use Rattle.std.proofs.Common.{◌≡◌, inl, inr, true, false, List, [], ◌∷◌, ◌++◌, Some, None, refl, sym, ap, subst, ◌∙◌}
use Rattle.std.specs.List.{Contains, filter}
use Rattle.std.proofs.lemmas.Bool.{eqb-false}
use Rattle.si_model.specs.declared.numbers.TxnId.{TxnId}
use Rattle.si_model.specs.declared.transactions.Txn.{Txn}
use Rattle.si_model.specs.Parts.{writes_some}
use Rattle.si_model.specs.Versions.{commit_of}
use Rattle.si_model.specs.Edits.{same_id, with_id, is_another}
use Rattle.si_model.proofs.Equalities.{same_id_is}
use Rattle.si_lists.proofs.Members.{Contains-from_filter}
use Rattle.si_lists.proofs.Tests.{find-Some, find-None}
use Rattle.si_accept.specs.Stamps.{has}
use Rattle.si_accept.specs.Writers.{writer_of}
use Rattle.si_accept.specs.Indexes.{Indexes, AreIndexes, StartsAt, CommitsAt, WritesPairOf, SetsTxn, LacksTxn, install_of, other_of}
use Rattle.si_accept.proofs.Exact.{arrived, exact_arrived, exact_withdrawn}
use Rattle.si_accept.proofs.StampChanges.{sets_true, sets_false, perhaps_true, perhaps_false}
use Rattle.si_accept.proofs.PairChanges.{writers_true, writers_false}

-- ---- an arrival

pub id_is_new : (P : List Txn) (T A : Txn) → with_id P T.id ≡ None → Contains P A → A.id ≡ T.id → ⊥
id_is_new P T A new c e = eqb-false A.id.0 T.id.0 (find-None (λ B. same_id B.id T.id) P new A c) (ap (λ u. u.0) e)

pub indexed_arrived : (P : List Txn) (I J : Indexes) (T : Txn) → AreIndexes P I → with_id P T.id ≡ None → LacksTxn T I → SetsTxn T true (Some T.id) I J → AreIndexes (P ++ T ∷ []) J
indexed_arrived P I J T h new lacks s = record {
  names = λ A B a b e. elim (arrived P T A a) [
    | inl c ↦ elim (arrived P T B b) [ inl d ↦ h.names A B c d e | inr d ↦ absurd (id_is_new P T A new c (e ∙ ap (λ C. C.id) (sym d))) ]
    | inr c ↦ elim (arrived P T B b) [ inl d ↦ absurd (id_is_new P T B new d (sym e ∙ ap (λ C. C.id) (sym c))) | inr d ↦ sym c ∙ d ]
  ];
  starts = exact_arrived StartsAt (λ k. has I.starts k.0 k.1 ≡ true) (λ k. has J.starts k.0 k.1 ≡ true) P T h.starts (sets_true T.start T.id I.starts J.starts s.starts);
  installs = exact_arrived (CommitsAt install_of) (λ k. has I.installs k.0 k.1 ≡ true) (λ k. has J.installs k.0 k.1 ≡ true) P T h.installs (perhaps_true (install_of (writes_some T) (commit_of T.status)) T.id I.installs J.installs s.commits.installs);
  others = exact_arrived (CommitsAt other_of) (λ k. has I.others k.0 k.1 ≡ true) (λ k. has J.others k.0 k.1 ≡ true) P T h.others (perhaps_true (other_of (writes_some T) (commit_of T.status)) T.id I.others J.others s.commits.others);
  writers = exact_arrived WritesPairOf (λ k. writer_of I.written k.0 ≡ Some k.1) (λ k. writer_of J.written k.0 ≡ Some k.1) P T h.writers (writers_true T.ops T.id I.written J.written lacks.pairs s.writers);
}

-- ---- a withdrawal

pub indexed_withdrawn : (P : List Txn) (I J : Indexes) (T : Txn) → AreIndexes P I → Contains P T → SetsTxn T false None I J → AreIndexes (filter (is_another T.id) P) J
indexed_withdrawn P I J T h c s = record {
  names = λ A B a b e. h.names A B (Contains-from_filter (is_another T.id) P A a).0 (Contains-from_filter (is_another T.id) P B b).0 e;
  starts = exact_withdrawn StartsAt (λ k. has I.starts k.0 k.1 ≡ true) (λ k. has J.starts k.0 k.1 ≡ true) P T c h.names (λ A B k a b. a.1 ∙ sym b.1) h.starts (sets_false T.start T.id I.starts J.starts s.starts);
  installs = exact_withdrawn (CommitsAt install_of) (λ k. has I.installs k.0 k.1 ≡ true) (λ k. has J.installs k.0 k.1 ≡ true) P T c h.names (λ A B k a b. a.1 ∙ sym b.1) h.installs (perhaps_false (install_of (writes_some T) (commit_of T.status)) T.id I.installs J.installs s.commits.installs);
  others = exact_withdrawn (CommitsAt other_of) (λ k. has I.others k.0 k.1 ≡ true) (λ k. has J.others k.0 k.1 ≡ true) P T c h.names (λ A B k a b. a.1 ∙ sym b.1) h.others (perhaps_false (other_of (writes_some T) (commit_of T.status)) T.id I.others J.others s.commits.others);
  writers = exact_withdrawn WritesPairOf (λ k. writer_of I.written k.0 ≡ Some k.1) (λ k. writer_of J.written k.0 ≡ Some k.1) P T c h.names (λ A B k a b. a.1 ∙ sym b.1) h.writers (writers_false T.ops T.id I.written J.written (λ q t. (h.writers (q, T.id)).1 (T, c, (t, refl))) s.writers);
}

pub withdrawn_of : (P : List Txn) (I J : Indexes) (u : TxnId) (T : Txn) → AreIndexes P I → with_id P u ≡ Some T → SetsTxn T false None I J → AreIndexes (filter (is_another u) P) J
withdrawn_of P I J u T h e s =
    let f = find-Some (λ A. same_id A.id u) P T e in
    subst (λ v. AreIndexes (filter (is_another v) P) J) (same_id_is T.id u f.1) (indexed_withdrawn P I J T h f.0 s)
