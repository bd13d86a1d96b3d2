-- What exact indexes find.
use Rattle.std.proofs.Common.{◌≡◌, ◌⊎◌, inl, inr, ◌↔◌, ◌≤◌, Bool, true, false, ◌||◌, List, [], Option, Some, None, refl, ap, subst, arith}
use Rattle.std.specs.List.{Contains, find}
use Rattle.std.specs.Option.{option_map, option_eq}
use Rattle.std.proofs.lemmas.Bool.{or_cases, or_left, or_right}
use Rattle.si_model.specs.declared.numbers.Stamp.{Stamp}
use Rattle.si_model.specs.declared.numbers.TxnId.{TxnId}
use Rattle.si_model.specs.declared.operations.Op.{Op}
use Rattle.si_model.specs.declared.operations.Op.TheVariants as op
use Rattle.si_model.specs.declared.transactions.Txn.{Txn}
use Rattle.si_model.specs.Versions.{commit_of}
use Rattle.si_model.specs.Parts.{writes_some, writes_pair_of}
use Rattle.si_model.specs.Edits.{same_stamp, install_stamp, installs_at, has_stamp, IsLeastId, writer_of_pair}
use Rattle.si_model.proofs.Equalities.{same_stamp_is, same_stamp_from, stamp_is}
use Rattle.si_lists.proofs.Members.{Contains-nil}
use Rattle.si_lists.proofs.Tests.{find-Some, find-None}
use Rattle.si_accept.specs.Stamps.{has, IsLeast}
use Rattle.si_accept.specs.Writers.{writer_of}
use Rattle.si_accept.specs.Indexes.{Indexes, AreIndexes, install_of, other_of, has_any}

-- ---- the least

same_id_number : (u w : TxnId) → u.0 ≤ w.0 → w.0 ≤ u.0 → u ≡ w
same_id_number u w a b = let e : u.0 ≡ w.0 = omega arith in ap (λ n. record { 0 = n }) e

pub least_is_one : (holds : Txn → Bool) (P : List Txn) (a b : Option TxnId) → IsLeastId holds P a → IsLeastId holds P b → a ≡ b
least_is_one holds P None None h k = refl
least_is_one holds P None (Some u) h k = (let f = h k.0.0 k.0.1 in let t = k.0.2 in cc)
least_is_one holds P (Some u) None h k = (let f = k h.0.0 h.0.1 in let t = h.0.2 in cc)
least_is_one holds P (Some u) (Some w) h k =
    let below = subst (λ v. u.0 ≤ v.0) k.0.3 (h.1 k.0.0 k.0.1 k.0.2) in
    let above = subst (λ v. w.0 ≤ v.0) h.0.3 (k.1 h.0.0 h.0.1 h.0.2) in
    ap Some (same_id_number u w below above)

-- what an exact test of ids finds least is the least transaction's
pub least_from : (test : TxnId → Bool) (holds : Txn → Bool) (P : List Txn) (r : Option TxnId) → ((u : TxnId) → (test u ≡ true) ↔ ((T : Txn) × Contains P T × (holds T ≡ true) × (T.id ≡ u))) → IsLeast test r → IsLeastId holds P r
least_from test holds P None exact l = λ T c. never T c (holds T) refl
  where
    never : (T : Txn) → Contains P T → (b : Bool) → holds T ≡ b → holds T ≡ false
    never T c true e = (let f = (exact T.id).1 (T, c, e, refl) in let g = l T.id in cc)
    never T c false e = e
least_from test holds P (Some u) exact l = ((exact u).0 l.0, λ T c t. l.1 T.id ((exact T.id).1 (T, c, t, refl)))

-- ---- stamps

pub installs_exact : (P : List Txn) (I : Indexes) → AreIndexes P I → (s : Stamp) (u : TxnId) → (has I.installs s u ≡ true) ↔ ((T : Txn) × Contains P T × (installs_at s T ≡ true) × (T.id ≡ u))
installs_exact P I h s u = (
  λ e. let r = (h.installs (s, u)).0 e in (r.0, r.1, (stamp_is (install_stamp r.0) s).1 r.2.0, r.2.1),
  λ r. (h.installs (s, u)).1 (r.0, r.1, ((stamp_is (install_stamp r.0) s).0 r.2, r.3)),
)

-- a commit is in one of the two
commit_cases : (b : Bool) (c : Option Stamp) (s : Stamp) → c ≡ Some s → (install_of b c ≡ Some s) ⊎ (other_of b c ≡ Some s)
commit_cases true c s e = inl e
commit_cases false c s e = inr e

commit_from : (b : Bool) (c : Option Stamp) (s : Stamp) → (install_of b c ≡ Some s) ⊎ (other_of b c ≡ Some s) → c ≡ Some s
commit_from true c s r = elim r [ inl e ↦ e | inr f ↦ cc ]
commit_from false c s r = elim r [ inl e ↦ cc | inr f ↦ f ]

commits_exact : (P : List Txn) (I : Indexes) → AreIndexes P I → (s : Stamp) (u : TxnId) → ((has I.installs s u || has I.others s u) ≡ true) ↔ ((T : Txn) × Contains P T × (option_eq same_stamp (commit_of T.status) (Some s) ≡ true) × (T.id ≡ u))
commits_exact P I h s u = (there, back)
  where
    told : (T : Txn) → Contains P T → (install_of (writes_some T) (commit_of T.status) ≡ Some s) ⊎ (other_of (writes_some T) (commit_of T.status) ≡ Some s) → T.id ≡ u → (T : Txn) × Contains P T × (option_eq same_stamp (commit_of T.status) (Some s) ≡ true) × (T.id ≡ u)
    told T m r i = (T, m, (stamp_is (commit_of T.status) s).1 (commit_from (writes_some T) (commit_of T.status) s r), i)

    there : (has I.installs s u || has I.others s u) ≡ true → (T : Txn) × Contains P T × (option_eq same_stamp (commit_of T.status) (Some s) ≡ true) × (T.id ≡ u)
    there e = elim (or_cases (has I.installs s u) (has I.others s u) e) [
      | inl a ↦ (let r = (h.installs (s, u)).0 a in told r.0 r.1 (inl r.2.0) r.2.1)
      | inr b ↦ (let r = (h.others (s, u)).0 b in told r.0 r.1 (inr r.2.0) r.2.1)
    ]

    back : (T : Txn) × Contains P T × (option_eq same_stamp (commit_of T.status) (Some s) ≡ true) × (T.id ≡ u) → (has I.installs s u || has I.others s u) ≡ true
    back r = elim (commit_cases (writes_some r.0) (commit_of r.0.status) s ((stamp_is (commit_of r.0.status) s).0 r.2)) [
      | inl a ↦ or_left (has I.installs s u) (has I.others s u) ((h.installs (s, u)).1 (r.0, r.1, (a, r.3)))
      | inr b ↦ or_right (has I.installs s u) (has I.others s u) ((h.others (s, u)).1 (r.0, r.1, (b, r.3)))
    ]

pub stamps_exact : (P : List Txn) (I : Indexes) → AreIndexes P I → (s : Stamp) (u : TxnId) → (has_any I s u ≡ true) ↔ ((T : Txn) × Contains P T × (has_stamp s T ≡ true) × (T.id ≡ u))
stamps_exact P I h s u = (
  λ e. elim (or_cases (has I.starts s u) (has I.installs s u || has I.others s u) e) [
    | inl a ↦ (let r = (h.starts (s, u)).0 a in (r.0, r.1, or_left (same_stamp r.0.start s) _ (same_stamp_from r.0.start s r.2.0), r.2.1))
    | inr b ↦ (let r = (commits_exact P I h s u).0 b in (r.0, r.1, or_right (same_stamp r.0.start s) _ r.2, r.3))
  ],
  λ r. elim (or_cases (same_stamp r.0.start s) (option_eq same_stamp (commit_of r.0.status) (Some s)) r.2) [
    | inl a ↦ or_left (has I.starts s u) _ ((h.starts (s, u)).1 (r.0, r.1, (same_stamp_is r.0.start s a, r.3)))
    | inr b ↦ or_right (has I.starts s u) _ ((commits_exact P I h s u).1 (r.0, r.1, b, r.3))
  ],
)

-- ---- the writer of a pair

pub writer_found : (P : List Txn) (I : Indexes) → AreIndexes P I → (q : Op) → writer_of I.written q ≡ option_map (λ T. T.id) (find (writes_pair_of q) P)
writer_found P I h q = elim (find (writes_pair_of q) P) as (λ o. find (writes_pair_of q) P ≡ o → writer_of I.written q ≡ option_map (λ (T : Txn). T.id) o) [
  | Some T ↦ λ e. (let f = find-Some (writes_pair_of q) P T e in (h.writers (q, T.id)).1 (T, f.0, (f.1, refl)))
  | None ↦ λ e. none e (writer_of I.written q) refl
] refl
  where
    none : find (writes_pair_of q) P ≡ None → (o : Option TxnId) → writer_of I.written q ≡ o → writer_of I.written q ≡ None
    none e None w = w
    none e (Some u) w = (let r = (h.writers (q, u)).0 w in let f = find-None (writes_pair_of q) P e r.0 r.1 in let t = r.2.0 in cc)

pub writer_is : (P : List Txn) (I : Indexes) → AreIndexes P I → (q : Op) → writer_of I.written q ≡ writer_of_pair q P
writer_is P I h (op.Read x v) = refl
writer_is P I h (op.Write x v) = writer_found P I h (op.Write x v)

-- ---- nothing is indexed of no transactions

pub nothing_indexed : (I : Indexes) → ((s : Stamp) (u : TxnId) → has I.starts s u ≡ false) → ((s : Stamp) (u : TxnId) → has I.installs s u ≡ false) → ((s : Stamp) (u : TxnId) → has I.others s u ≡ false) → ((q : Op) → writer_of I.written q ≡ None) → AreIndexes [] I
nothing_indexed I starts installs others writers = record {
  names = λ A B a b e. absurd (Contains-nil A a);
  starts = λ k. (λ e. (let f = starts k.0 k.1 in cc), λ r. absurd (Contains-nil r.0 r.1));
  installs = λ k. (λ e. (let f = installs k.0 k.1 in cc), λ r. absurd (Contains-nil r.0 r.1));
  others = λ k. (λ e. (let f = others k.0 k.1 in cc), λ r. absurd (Contains-nil r.0 r.1));
  writers = λ k. (λ e. (let f = writers k.0 in cc), λ r. absurd (Contains-nil r.0 r.1));
}
