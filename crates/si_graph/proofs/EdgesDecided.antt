-- The tests decide which edges are of the graph.
use Rattle.std.proofs.Common.{◌≡◌, ◌∙◌, ◌⊎◌, inl, inr, ℕ, ◌<◌, Bool, true, List, Option, Some, None, is_some, refl, sym, ap, subst, slice_get}
use Rattle.std.specs.Bool.{Decides}
use Rattle.std.specs.List.{Contains, find}
use Rattle.std.proofs.lemmas.Bool.Decides.{Decides-ltb, Decides-not, Decides-and, Decides-or, Decides-like}
use Rattle.si_model.specs.declared.numbers.TxnId.{TxnId}
use Rattle.si_model.specs.declared.numbers.Stamp.{Stamp}
use Rattle.si_model.specs.declared.numbers.Value.{Value}
use Rattle.si_model.specs.declared.operations.Op.{Op}
use Rattle.si_model.specs.declared.operations.Op.TheVariants as op
use Rattle.si_model.specs.declared.transactions.Status.{Status}
use Rattle.si_model.specs.declared.transactions.Status.TheVariants as status
use Rattle.si_model.specs.declared.transactions.Txn.{Txn}
use Rattle.si_model.specs.declared.parts.Access.TheVariants as access
use Rattle.si_model.specs.declared.sights.Installer.{Installer}
use Rattle.si_model.specs.declared.sights.VersionId.{VersionId}
use Rattle.si_model.specs.declared.sights.VersionId.TheVariants as version
use Rattle.si_model.specs.declared.sights.Source.{Source}
use Rattle.si_model.specs.declared.sights.Source.TheVariants as source
use Rattle.si_model.specs.declared.evidence.Label.{Label}
use Rattle.si_model.specs.declared.evidence.Label.TheVariants as label
use Rattle.si_model.specs.declared.evidence.Edge.{Edge}
use Rattle.si_model.specs.Operations.{key_of}
use Rattle.si_model.specs.Parts.{Present, accesses, set_up_value, on_key}
use Rattle.si_model.specs.Versions.{IsNext, commit_of, last_write}
use Rattle.si_model.specs.Reads.{IsSource, ReturnsVersion, version_of}
use Rattle.si_model.specs.History.{IsHistory}
use Rattle.si_model.specs.Edits.{with_id}
use Rattle.si_graph.specs.Edges.{IsWriteDependency, IsReadDependency, IsAntiDependency, AreTimed, IsStartDependency, Connects, IsEdge}
use Rattle.si_graph.specs.EvidenceTests.{part_on, install_on, is_committed, write_depends_at, reads_last_of, installs_value, precedes, one_precedes, reads_before, is_before, connects, both_pass, is_edge}
use Rattle.si_graph.specs.Laws.{ModelLaws}
use Rattle.si_lists.proofs.Members.{same_some, get_contains, contains_get}
use Rattle.si_lists.proofs.Names.{same_named}
use Rattle.si_lists.proofs.Tests.{find-Some, find-None}
use Rattle.si_graph.proofs.ListTests.{any_decides}
use Rattle.si_graph.proofs.OnKeys.{part_from, read_by, read_at, part_of_write, values_decide, last_decides, install_exact, installs_by, installer_in, installer_from, final_exact, op_at, last_is}
use Rattle.si_graph.proofs.Neighbours.{Follows, follows_decides, AreNeighbours, neighbours_decide}

-- two transactions of these ids that are so related
pub record ArePair (P : Present) (R : Txn → Txn → Type 0) (a b : TxnId) : Type 0 where
  pub first : Txn
  pub second : Txn
  pub from : Contains P.txns first
  pub to : Contains P.txns second
  pub from_id : first.id ≡ a
  pub to_id : second.id ≡ b
  pub related : R first second

-- the transaction committed
abbrev pub HasCommitted : Txn → Type 0
HasCommitted T = (c : Stamp) × (T.status ≡ status.Committed c)

-- both committed, the one at a stamp that is so related to the other's start
abbrev pub AreSoTimed : (ℕ → ℕ → Type 0) → Txn → Txn → Type 0
AreSoTimed R A B = ((c : Stamp) × (A.status ≡ status.Committed c) × R c.0 B.start.0) × HasCommitted B

pub timed_is : (P : Present) (R : ℕ → ℕ → Type 0) (u w : TxnId) → ArePair P (AreSoTimed R) u w → AreTimed P R u w
timed_is P R u w p = let r = p.related in record {
  first = p.first;
  second = p.second;
  commit = r.0.0;
  later = r.1.0;
  from = record { txn = p.from; id = p.from_id; committed = r.0.1 };
  to = record { txn = p.to; id = p.to_id; committed = r.1.1 };
  timed = r.0.2;
}

pub timed_from : (P : Present) (R : ℕ → ℕ → Type 0) (u w : TxnId) → AreTimed P R u w → ArePair P (AreSoTimed R) u w
timed_from P R u w t = record {
  first = t.first;
  second = t.second;
  from = t.from.txn;
  to = t.to.txn;
  from_id = t.from.id;
  to_id = t.to.id;
  related = ((t.commit, t.from.committed, t.timed), (t.later, t.to.committed));
}

pub committed_decides : (T : Txn) → Decides (is_committed T) (HasCommitted T)
committed_decides T = by T.status
  where
    by : (s : Status) → Decides (is_some (commit_of s)) ((c : Stamp) × (s ≡ status.Committed c))
    by (status.Committed c) = (λ e. (c, refl), λ r. refl)
    by status.Aborted = (λ e. cc, λ r. (let e = r.1 in cc))
    by status.InDoubt = (λ e. cc, λ r. (let e = r.1 in cc))

module _ (laws : ModelLaws) (P : Present) (h : IsHistory P) where
  pub both_decide : (test : Txn → Txn → Bool) (R : Txn → Txn → Type 0) → ((A B : Txn) → Contains P.txns A → Contains P.txns B → Decides (test A B) (R A B)) → (a b : TxnId)
      → Decides (both_pass test (with_id P.txns a) (with_id P.txns b)) (ArePair P R a b)
  both_decide test R each a b = (is (with_id P.txns a) (with_id P.txns b) refl refl, from)
    where
      is : (o p : Option Txn) → with_id P.txns a ≡ o → with_id P.txns b ≡ p → both_pass test o p ≡ true → ArePair P R a b
      is None p s t e = cc
      is (Some A) None s t e = cc
      is (Some A) (Some B) s t e =
          let first = (laws.ids P a A h).0 s in
          let second = (laws.ids P b B h).0 t in
          record { first = A; second = B; from = first.0; to = second.0; from_id = first.1; to_id = second.1; related = (each A B first.0 second.0).0 e }

      from : ArePair P R a b → both_pass test (with_id P.txns a) (with_id P.txns b) ≡ true
      from p =
          rw ((laws.ids P a p.first h).1 (p.from, p.from_id), (laws.ids P b p.second h).1 (p.to, p.to_id)) ((each p.first p.second p.from p.to).1 p.related)

  -- ---- ww

  abbrev WriteDepends : Txn → Txn → Type 0
  WriteDepends A B = (i : ℕ) × (p : Op) × (slice_get A.ops i ≡ Some p) × AreNeighbours laws P (key_of p) A B

  ww_is : (A B : Txn) → Contains P.txns A → WriteDepends A B → IsWriteDependency P A.id B.id
  ww_is A B a d =
      let x = key_of d.1 in
      let n = d.3 in
      record {
        key = x;
        first = n.0;
        second = n.2.0;
        installs = installer_in laws x P A n.0 a n.1;
        next = n.2.2;
        from = ((install_exact laws x A n.0).0 n.1).txn;
        to = ((install_exact laws x B n.2.0).0 n.2.1).txn;
      }

  ww_from : (u w : TxnId) → IsWriteDependency P u w → ArePair P WriteDepends u w
  ww_from u w d =
      let f = installer_from laws d.key P d.first d.installs in
      let g = installer_from laws d.key P d.second d.next.installs in
      let first = (install_exact laws d.key f.0 d.first).0 f.2 in
      let at = first.writes.1 in
      record {
        first = f.0;
        second = g.0;
        from = f.1;
        to = g.1;
        from_id = sym first.txn ∙ d.from;
        to_id = sym ((install_exact laws d.key g.0 d.second).0 g.2).txn ∙ d.to;
        related = (at.0, op.Write d.key first.writes.0, op_at laws d.key f.0.ops (record { place = at.0; access = access.Write first.writes.0 }) at.1, (d.first, f.2, (d.second, g.2, d.next)));
      }

  -- ---- wr

  -- the operation is a read that returned A's last write of its key
  abbrev ReadsLast : Txn → Op → Type 0
  ReadsLast A (op.Read x None) = ⊥
  ReadsLast A (op.Read x (Some v)) = last_write (accesses x A.ops) ≡ Some v
  ReadsLast A (op.Write x v) = ⊥

  reads_last_decides : (A : Txn) (p : Op) → Decides (reads_last_of A p) (ReadsLast A p)
  reads_last_decides A (op.Read x None) = (λ e. cc, λ r. absurd r)
  reads_last_decides A (op.Read x (Some v)) = last_decides laws x v A
  reads_last_decides A (op.Write x v) = (λ e. cc, λ r. absurd r)

  abbrev ReadDepends : Txn → Txn → Type 0
  ReadDepends A B = HasCommitted A × (HasCommitted B × ((i : ℕ) × (p : Op) × (slice_get B.ops i ≡ Some p) × ReadsLast A p))

  -- where the value comes from that a committed transaction wrote last
  installed_is : (x : List ℕ) (A : Txn) (c : Stamp) (v : Value) → Contains P.txns A → A.status ≡ status.Committed c → last_write (accesses x A.ops) ≡ Some v → IsSource (on_key x P) (Some v) (source.Installed A.id c)
  installed_is x A c v a s l =
      let n : Installer = record { txn = A.id; start = A.start; commit = c } in
      let w = ((install_exact laws x A n).0 (installs_by laws x A c v s l)).writes in
      let part = part_of_write laws x P.txns A w.0 a w.1 in
      let final = (final_exact laws x P h A v part).0 l in
      (v, part_on x A, refl, record { part = part; id = refl; writes = (final.place, final.is) }, s, final)

  -- and the other way round
  pub installed_from : (x : List ℕ) (u : TxnId) (c : Stamp) (v : Option Value) → IsSource (on_key x P) v (source.Installed u c)
      → (w : Value) × (A : Txn) × (v ≡ Some w) × Contains P.txns A × (A.id ≡ u) × (A.status ≡ status.Committed c) × (last_write (accesses x A.ops) ≡ Some w)
  installed_from x u c v s =
      let f = part_from laws x P.txns s.1 s.3.part in
      let part = subst (Contains (on_key x P).parts) f.2 s.3.part in
      let last = (laws.last (on_key x P) s.1 s.0 (laws.keys P x h) s.3.part).1 s.5 in
      (s.0, f.0, s.2, f.1, ap (λ Q. Q.id) (sym f.2) ∙ sym s.3.id, ap (λ Q. Q.status) (sym f.2) ∙ s.4, ap (λ Q. last_write Q.accesses) (sym f.2) ∙ last)

  wr_is : (A B : Txn) → Contains P.txns A → Contains P.txns B → ReadDepends A B → IsReadDependency P A.id B.id
  wr_is A B a b d = by d.1.1.1 d.1.1.2 d.1.1.3
    where
      by : (p : Op) → slice_get B.ops d.1.1.0 ≡ Some p → ReadsLast A p → IsReadDependency P A.id B.id
      by (op.Read x None) g r = absurd r
      by (op.Write x v) g r = absurd r
      by (op.Read x (Some v)) g r = record {
        key = x;
        commit = d.0.0;
        reader = part_on x B;
        place = d.1.1.0;
        value = Some v;
        read = read_at laws x P B d.1.0.0 d.1.1.0 (Some v) b d.1.0.1 g;
        installed = installed_is x A d.0.0 v a d.0.1 r;
        to = refl;
      }

  wr_from : (u w : TxnId) → IsReadDependency P u w → ArePair P ReadDepends u w
  wr_from u w d =
      let f = installed_from d.key u d.commit d.value d.installed in
      let g = read_by laws d.key P d.reader d.place d.value d.read in
      record {
        first = f.1;
        second = g.txn;
        from = f.3;
        to = g.at;
        from_id = f.4;
        to_id = ap (λ Q. Q.id) (sym g.is) ∙ d.to;
        related = ((d.commit, f.5), (g.committed, (d.place, op.Read d.key (Some f.0), g.found ∙ ap (λ v. Some (op.Read d.key v)) f.2, f.6)));
      }

  -- ---- rw

  -- the version before B's is the initial one, which returns the value, or that of a transaction that installs the value
  abbrev InitialPrecedes : List ℕ → Option Value → Txn → Type 0
  InitialPrecedes x v B = (v ≡ set_up_value x P.initial) × Follows laws P x version.Initial B

  abbrev OnePrecedes : List ℕ → Option Value → Txn → Type 0
  OnePrecedes x None B = ⊥
  OnePrecedes x (Some v) B = (i : ℕ) × (T : Txn) × (slice_get P.txns i ≡ Some T) × ((last_write (accesses x T.ops) ≡ Some v) × AreNeighbours laws P x T B)

  one_precedes_decides : (x : List ℕ) (v : Option Value) (B : Txn) → Contains P.txns B → Decides (one_precedes P.txns x v (install_on x B)) (OnePrecedes x v B)
  one_precedes_decides x None B b = (λ e. cc, λ r. absurd r)
  one_precedes_decides x (Some v) B b = by (find (installs_value x v) P.txns) refl
    where
      written : (T : Txn) → Contains P.txns T → HasCommitted T → last_write (accesses x T.ops) ≡ Some v → (i : ℕ) × (slice_get T.ops i ≡ Some (op.Write x v))
      written T t c e = let l = last_is laws x P h T v t c.0 c.1 e in (l.place, l.is)

      -- two that install the value are one
      one : (A B : Txn) → Contains P.txns A → Contains P.txns B → HasCommitted A → HasCommitted B → last_write (accesses x A.ops) ≡ Some v → last_write (accesses x B.ops) ≡ Some v → A ≡ B
      one A B a b c d e f =
          let i = written A a c e in
          let j = written B b d f in
          same_named (λ (T : Txn). T.id) P.txns h.names A B a b (h.writes A B i.0 j.0 x v a b i.1 j.1).0

      installs_decides : (T : Txn) → Decides (installs_value x v T) (HasCommitted T × (last_write (accesses x T.ops) ≡ Some v))
      installs_decides T = Decides-and _ _ (committed_decides T) (last_decides laws x v T)

      -- who has a neighbour committed
      has_committed : (T : Txn) → AreNeighbours laws P x T B → HasCommitted T
      has_committed T n = (n.0.commit, ((install_exact laws x T n.0).0 n.1).committed)

      by : (o : Option Txn) → find (installs_value x v) P.txns ≡ o → Decides (precedes P.txns x o (install_on x B)) (OnePrecedes x (Some v) B)
      by None s = (
        λ e. cc,
        λ r. (
            let never = find-None (installs_value x v) P.txns s r.1 (get_contains P.txns r.0 r.1 r.2) in
            let yes = (installs_decides r.1).1 (has_committed r.1 r.3.1, r.3.0) in
            cc
            ),
      )
      by (Some T) s =
          let f = find-Some (installs_value x v) P.txns T s in
          let is = (installs_decides T).0 f.1 in
          let at = contains_get P.txns T f.0 in
          Decides-like _
          (λ n. (at.0, T, at.1, (is.1, n)))
          (λ r. subst (λ U. AreNeighbours laws P x U B) (one r.1 T (get_contains P.txns r.0 r.1 r.2) f.0 (has_committed r.1 r.3.1) is.0 r.3.0 is.1) r.3.1)
          (neighbours_decide laws P x T B b)

  -- the operation is a read that returned the version before B's
  abbrev ReadsBefore : Txn → Op → Type 0
  ReadsBefore B (op.Read x v) = InitialPrecedes x v B ⊎ OnePrecedes x v B
  ReadsBefore B (op.Write x v) = ⊥

  reads_before_decides : (B : Txn) → Contains P.txns B → (p : Op) → Decides (reads_before P B p) (ReadsBefore B p)
  reads_before_decides B b (op.Read x v) = Decides-or _ _ (Decides-and _ _ (values_decide laws v (set_up_value x P.initial)) (follows_decides laws P x version.Initial B b)) (one_precedes_decides x v B b)
  reads_before_decides B b (op.Write x v) = (λ e. cc, λ r. absurd r)

  abbrev AntiDepends : Txn → Txn → Type 0
  AntiDepends A B = HasCommitted A × ((i : ℕ) × (p : Op) × (slice_get A.ops i ≡ Some p) × ReadsBefore B p)

  -- the version that a read returned, and the one that B installs next
  record Before (x : List ℕ) (v : Option Value) (B : Txn) : Type 0 where
    version : VersionId
    second : Installer
    returned : ReturnsVersion (on_key x P) v version
    next : IsNext (on_key x P) version second
    to : second.txn ≡ B.id

  before_is : (x : List ℕ) (v : Option Value) (B : Txn) → InitialPrecedes x v B ⊎ OnePrecedes x v B → Before x v B
  before_is x v B (inl r) = record {
    version = version.Initial;
    second = r.1.0;
    returned = (source.Initial, r.0, refl);
    next = r.1.2;
    to = ((install_exact laws x B r.1.0).0 r.1.1).txn;
  }
  before_is x None B (inr r) = absurd r
  before_is x (Some v) B (inr r) =
      let T = r.1 in
      let n = r.3.1 in
      let m = n.0 in
      let is = (install_exact laws x T m).0 n.1 in
      record {
        version = version.Installed m.commit;
        second = n.2.0;
        returned = (source.Installed T.id m.commit, installed_is x T m.commit v (get_contains P.txns r.0 T r.2) is.committed r.3.0, refl);
        next = n.2.2;
        to = ((install_exact laws x B n.2.0).0 n.2.1).txn;
      }

  before_from : (x : List ℕ) (v : Option Value) (B : Txn) (a : VersionId) (s : Source) (n : Installer) → IsSource (on_key x P) v s → version_of s ≡ Some a → install_on x B ≡ Some n → IsNext (on_key x P) a n
      → InitialPrecedes x v B ⊎ OnePrecedes x v B
  before_from x v B a source.Initial n s is e next = inl (s, (n, e, subst (λ b. IsNext (on_key x P) b n) (sym (same_some is)) next))
  before_from x v B a (source.Installed u c) n s is e next =
      let f = installed_from x u c v s in
      let T = f.1 in
      let at = contains_get P.txns T f.3 in
      let m : Installer = record { txn = T.id; start = T.start; commit = c } in
      inr (subst (λ o. OnePrecedes x o B) (sym f.2) (at.0, T, at.1, (f.6, (m, installs_by laws x T c f.0 f.5 f.6, (n, e, subst (λ b. IsNext (on_key x P) b n) (sym (same_some is)) next)))))
  before_from x v B a source.Missing n s is e next = cc
  before_from x v B a (source.InDoubt u) n s is e next = cc
  before_from x v B a (source.Aborted u) n s is e next = cc
  before_from x v B a (source.Earlier u) n s is e next = cc

  rw_is : (A B : Txn) → Contains P.txns A → AntiDepends A B → IsAntiDependency P A.id B.id
  rw_is A B a d = by d.1.1 d.1.2 d.1.3
    where
      by : (p : Op) → slice_get A.ops d.1.0 ≡ Some p → ReadsBefore B p → IsAntiDependency P A.id B.id
      by (op.Write x v) g r = absurd r
      by (op.Read x v) g r =
          let f = before_is x v B r in
          record {
            key = x;
            reader = part_on x A;
            place = d.1.0;
            value = v;
            version = f.version;
            second = f.second;
            read = read_at laws x P A d.0.0 d.1.0 v a d.0.1 g;
            returned = f.returned;
            next = f.next;
            from = refl;
            to = f.to;
          }

  rw_from : (u w : TxnId) → IsAntiDependency P u w → ArePair P AntiDepends u w
  rw_from u w d =
      let g = read_by laws d.key P d.reader d.place d.value d.read in
      let f = installer_from laws d.key P d.second d.next.installs in
      record {
        first = g.txn;
        second = f.0;
        from = g.at;
        to = f.1;
        from_id = ap (λ Q. Q.id) (sym g.is) ∙ d.from;
        to_id = sym ((install_exact laws d.key f.0 d.second).0 f.2).txn ∙ d.to;
        related = (g.committed, (d.place, op.Read d.key d.value, g.found, before_from d.key d.value f.0 d.version d.returned.0 d.second d.returned.1 d.returned.2 f.2 d.next));
      }

  -- ---- st

  before_decides : (T : Txn) (s : Stamp) → Decides (is_before (commit_of T.status) s) ((c : Stamp) × (T.status ≡ status.Committed c) × (c.0 < s.0))
  before_decides T s = by T.status
    where
      by : (t : Status) → Decides (is_before (commit_of t) s) ((c : Stamp) × (t ≡ status.Committed c) × (c.0 < s.0))
      by (status.Committed c) = Decides-like _ (λ l. (c, refl, l)) (λ r. subst (λ k. k.0 < s.0) (sym (same_some (ap commit_of r.1))) r.2) (Decides-ltb c.0 s.0)
      by status.Aborted = (λ e. cc, λ r. (let f = r.1 in cc))
      by status.InDoubt = (λ e. cc, λ r. (let f = r.1 in cc))

  abbrev StartDepends : Txn → Txn → Type 0
  StartDepends = AreSoTimed (λ c s. c < s)

  st_is : (A B : Txn) → Contains P.txns A → Contains P.txns B → StartDepends A B → IsStartDependency P A.id B.id
  st_is A B a b d = timed_is P (λ c s. c < s) A.id B.id (record { first = A; second = B; from = a; to = b; from_id = refl; to_id = refl; related = d })

  -- ---- edges

  abbrev AreConnected : Label → Txn → Txn → Type 0
  AreConnected label.Ww A B = WriteDepends A B
  AreConnected label.Wr A B = ReadDepends A B
  AreConnected label.Rw A B = AntiDepends A B
  AreConnected label.St A B = StartDepends A B

  connects_decides : (l : Label) (A B : Txn) → Contains P.txns A → Contains P.txns B → Decides (connects P l A B) (AreConnected l A B)
  connects_decides label.Ww A B a b = any_decides (write_depends_at P.txns A B) (λ p. AreNeighbours laws P (key_of p) A B) (λ p. neighbours_decide laws P (key_of p) A B b) A.ops
  connects_decides label.Wr A B a b = Decides-and _ _ (committed_decides A) (Decides-and _ _ (committed_decides B) (any_decides (reads_last_of A) (ReadsLast A) (reads_last_decides A) B.ops))
  connects_decides label.Rw A B a b = Decides-and _ _ (committed_decides A) (any_decides (reads_before P B) (ReadsBefore B) (reads_before_decides B b) A.ops)
  connects_decides label.St A B a b = Decides-and _ _ (before_decides A B.start) (committed_decides B)

  connected_is : (l : Label) (A B : Txn) → Contains P.txns A → Contains P.txns B → AreConnected l A B → Connects P l A.id B.id
  connected_is label.Ww A B a b r = ww_is A B a r
  connected_is label.Wr A B a b r = wr_is A B a b r
  connected_is label.Rw A B a b r = rw_is A B a r
  connected_is label.St A B a b r = st_is A B a b r

  connected_from : (l : Label) (u w : TxnId) → Connects P l u w → ArePair P (AreConnected l) u w
  connected_from label.Ww u w d = ww_from u w d
  connected_from label.Wr u w d = wr_from u w d
  connected_from label.Rw u w d = rw_from u w d
  connected_from label.St u w d = timed_from P (λ c s. c < s) u w d

  pub edge_decides : (e : Edge) → Decides (is_edge P e) (IsEdge P e)
  edge_decides e = Decides-like _
      (λ r. (let p = r.1 in record {
        differ = r.0;
        connects = subst (λ w. Connects P e.label e.from w) p.to_id (subst (λ u. Connects P e.label u p.second.id) p.from_id (connected_is e.label p.first p.second p.from p.to p.related));
      }))
      (λ is. (is.differ, connected_from e.label e.from e.to is.connects))
      (Decides-and _ _ (Decides-not _ (laws.tests.ids e.from e.to)) (both_decide (connects P e.label) (AreConnected e.label) (connects_decides e.label) e.from e.to))
