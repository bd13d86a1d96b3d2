-- Start edges, and the parts on a key between which they lead.
use Rattle.std.proofs.Common.{◌≡◌, ◌≢◌, ◌∙◌, ◌⊎◌, inl, inr, ℕ, ◌<◌, List, Some, sym, ap, arith}
use Rattle.std.specs.List.{Contains}
use Rattle.std.proofs.lemmas.Bool.{cases_order}
use Rattle.si_model.specs.declared.numbers.Stamp.{Stamp}
use Rattle.si_model.specs.declared.numbers.TxnId.{TxnId}
use Rattle.si_model.specs.declared.numbers.Value.{Value}
use Rattle.si_model.specs.declared.transactions.Status.TheVariants as status
use Rattle.si_model.specs.declared.transactions.Txn.{Txn}
use Rattle.si_model.specs.declared.parts.Part.{Part}
use Rattle.si_model.specs.declared.sights.Installer.{Installer}
use Rattle.si_model.specs.Parts.{Present, parts, on_key}
use Rattle.si_model.specs.Versions.{Writes, IsInstaller, commit_of}
use Rattle.si_model.specs.History.{IsHistory}
use Rattle.si_graph.specs.Edges.{IsNode, IsStartDependency}
use Rattle.si_graph.specs.Laws.{ModelLaws}
use Rattle.si_lists.proofs.Members.{same_some}
use Rattle.si_lists.proofs.Names.{same_named}
use Rattle.si_graph.proofs.OnKeys.{part_from}

module _ (P : Present) (h : IsHistory P) where
  -- a node has one transaction and one commit stamp
  pub same_node : (u : TxnId) (A B : Txn) (c d : Stamp) → IsNode P u A c → IsNode P u B d → (A ≡ B) × (c ≡ d)
  same_node u A B c d a b =
      let same : A ≡ B = same_named (λ (T : Txn). T.id) P.txns h.names A B a.txn b.txn (a.id ∙ sym b.id) in
      let stamps : Some c ≡ Some d = ap commit_of (sym a.committed) ∙ ap (λ (T : Txn). commit_of T.status) same ∙ ap commit_of b.committed in
      (same, same_some stamps)

  -- start edges follow one another
  pub chain : (a b c : TxnId) → IsStartDependency P a b → IsStartDependency P b c → IsStartDependency P a c
  chain a b c s t =
      let mid = same_node b s.second t.first s.later t.commit s.to t.from in
      let commit : s.later.0 ≡ t.commit.0 = ap (λ (k : Stamp). k.0) mid.1 in
      let forward = h.forward s.second s.later s.to.txn (ap commit_of s.to.committed) in record {
        first = s.first;
        second = t.second;
        commit = s.commit;
        later = t.later;
        from = s.from;
        to = t.to;
        timed = omega (arith, s.timed, t.timed, forward, commit);
      }

  -- and none leads back to where it began
  pub no_loop : (a : TxnId) → IsStartDependency P a a → ⊥
  no_loop a s =
      let commit : s.commit.0 ≡ s.later.0 = ap (λ (k : Stamp). k.0) (same_node a s.first s.second s.commit s.later s.from s.to).1 in
      let forward = h.forward s.second s.later s.to.txn (ap commit_of s.to.committed) in
      omega (arith, s.timed, forward, commit)

module _ (laws : ModelLaws) (P : Present) (x : List ℕ) where
  -- the node of a committed part
  pub node_of : (T : Part) (c : Stamp) → Contains (parts x P.txns) T → T.status ≡ status.Committed c → (A : Txn) × IsNode P T.id A c × (T.start ≡ A.start)
  node_of T c t s =
      let f = part_from laws x P.txns T t in
      (f.0, record { txn = f.1; id = ap (λ (Q : Part). Q.id) (sym f.2); committed = ap (λ (Q : Part). Q.status) (sym f.2) ∙ s }, ap (λ (Q : Part). Q.start) f.2)

  -- the node of an installer
  pub node_of_installer : (n : Installer) → IsInstaller (on_key x P) n → (A : Txn) × IsNode P n.txn A n.commit × (n.start ≡ A.start)
  node_of_installer n i =
      let f = node_of i.0 n.commit i.1 i.2.committed in
      (f.0, record { txn = f.1.txn; id = f.1.id ∙ sym i.2.txn; committed = f.1.committed }, i.2.start ∙ f.2)

  module _ (h : IsHistory P) (A B : Part) (b c : Stamp) (a_in : Contains (parts x P.txns) A) (b_in : Contains (parts x P.txns) B) (a_is : A.status ≡ status.Committed b) (b_is : B.status ≡ status.Committed c) where
    -- a committed part before another one's start is a start edge
    pub starts : b.0 < B.start.0 → IsStartDependency P A.id B.id
    starts before =
        let X = node_of A b a_in a_is in
        let Y = node_of B c b_in b_is in
        let start : B.start.0 ≡ Y.0.start.0 = ap (λ (k : Stamp). k.0) Y.2 in
        record { first = X.0; second = Y.0; commit = b; later = c; from = X.1; to = Y.1; timed = omega (arith, before, start) }

    -- and the other way round: the stamps of a start edge are those of the parts
    pub starts_back : IsStartDependency P A.id B.id → b.0 < B.start.0
    starts_back s =
        let X = node_of A b a_in a_is in
        let Y = node_of B c b_in b_is in
        let commit : s.commit.0 ≡ b.0 = ap (λ (k : Stamp). k.0) (same_node P h A.id s.first X.0 s.commit b s.from X.1).1 in
        let second : s.second.start.0 ≡ Y.0.start.0 = ap (λ (T : Txn). T.start.0) (same_node P h B.id s.second Y.0 s.later c s.to Y.1).0 in
        let start : B.start.0 ≡ Y.0.start.0 = ap (λ (k : Stamp). k.0) Y.2 in
        omega (arith, s.timed, commit, second, start)

    -- a part that writes commits before another one's start, or after it
    pub starts_or_late : (v : Value) → Writes A v → A.id ≢ B.id → IsStartDependency P A.id B.id ⊎ (B.start.0 < b.0)
    starts_or_late v w differ = elim (cases_order b.0 B.start.0) [
      | inl same ↦ absurd (((laws.keys P x h).stamps A B b v a_in b_in differ (ap commit_of a_is) w).0 (λ i. record { 0 = same i }))
      | inr rest ↦ elim rest [ inl before ↦ inl (starts before) | inr late ↦ inr late ]
    ]
