-- A fork or a knot in a history whose committed transactions read snapshots and don't overlap: its stamps would go round in a circle.
use Rattle.std.proofs.Common.{◌≡◌, ◌≢◌, ◌∙◌, ◌⊎◌, inl, inr, ℕ, ◌<◌, ◌≤◌, true, false, List, [], ◌∷◌, Option, Some, refl, sym, ap, subst, arith}
use Rattle.std.specs.Prelude.{slice_get}
use Rattle.std.specs.List.{Contains}
use Rattle.std.proofs.lemmas.Bool.{cases_order}
use Rattle.si_model.specs.declared.numbers.Stamp.{Stamp}
use Rattle.si_model.specs.declared.numbers.TxnId.{TxnId}
use Rattle.si_model.specs.declared.numbers.Value.{Value}
use Rattle.si_model.specs.declared.operations.Op.TheVariants as op
use Rattle.si_model.specs.declared.parts.Access.TheVariants as access
use Rattle.si_model.specs.declared.transactions.Status.{Status}
use Rattle.si_model.specs.declared.transactions.Status.TheVariants as status
use Rattle.si_model.specs.declared.transactions.Txn.{Txn}
use Rattle.si_model.specs.declared.evidence.Label.{Label}
use Rattle.si_model.specs.declared.evidence.Label.TheVariants as label
use Rattle.si_model.specs.declared.evidence.Edge.{Edge}
use Rattle.si_model.specs.declared.evidence.KeyedEdge.{KeyedEdge}
use Rattle.si_model.specs.Parts.{Present, set_up_value}
use Rattle.si_model.specs.Versions.{commit_of}
use Rattle.si_model.specs.Findings.{findings}
use Rattle.si_model.specs.History.{WritesPairAt, IsHistory}
use Rattle.si_graph.specs.Edges.{IsNode}
use Rattle.si_graph.specs.EvidenceTests.{part_on}
use Rattle.si_graph.specs.Laws.{ModelLaws}
use Rattle.si_graph.specs.Serial.{Commits, CommitsWrite, IsLastWrite, IsLeft, Holds, Gives}
use Rattle.si_graph.specs.Snapshots.{IsSnapshot}
use Rattle.si_graph.specs.Walks.{IsWalk, IsClosed, is_rw, is_rw_edge}
use Rattle.si_graph.specs.Unstamped.{IsSameOutcome, IsRestamped, HasOtherStamps, IsCommitted, ReadsFirst, ReadsAndWrites, IsFork, HandsOver, IsOverwrittenBy, IsByValue, IsValueEdge, IsNoRwPair, AreSpaced, HasNoRwPair, edges_of, IsKnot}
use Rattle.si_lists.proofs.Members.{here, there, same_some}
use Rattle.si_graph.proofs.OnKeys.{access_at, part_in}
use Rattle.si_graph.proofs.StartEdges.{same_node}
use Rattle.si_graph.proofs.SerialReads.{same_commit}
use Rattle.si_graph.proofs.SnapshotFindings.{snapshots_clean}

not_less : (m n : ℕ) → (n < m → ⊥) → m ≤ n
not_less m n never = elim (cases_order n m) [
  | inl same ↦ omega (arith, same)
  | inr rest ↦ elim rest [ inl late ↦ absurd (never late) | inr behind ↦ omega (arith, behind) ]
]

-- ---- in one history

module _ (laws : ModelLaws) (P : Present) (h : IsHistory P) (snap : IsSnapshot P) where
  -- no transaction writes what the key was set up with
  not_initial : (T : Txn) (i : ℕ) (x : List ℕ) (w : Value) → Contains P.txns T → WritesPairAt T i x w → set_up_value x P.initial ≡ Some w → ⊥
  not_initial T i x w is writes e =
      let a = access_at laws x T.ops i (access.Write w) writes in
      (laws.keys P x h).initial w (part_on x T) e (part_in laws x P.txns T (record { place = i; access = access.Write w }) is a) (i, a)

  -- a read before all own writes of its key returned what the key held at the start
  held : (T : Txn) (c : Stamp) (i : ℕ) (x : List ℕ) (v : Option Value) → Commits P T c → ReadsFirst T i x v → Holds P T.start x v
  held T c i x v t r = elim (snap.reads T c i x v t r.reads) [
    | inl own ↦ absurd (r.unwritten own.2.place own.0 own.2.is own.2.before)
    | inr other ↦ other.1
  ]

  -- two that wrote one value to a key are one, and committed once
  one_commit : (A B : Txn) (c d : Stamp) (i j : ℕ) (x : List ℕ) (v w : Value) → Commits P A c → Commits P B d → WritesPairAt A i x v → WritesPairAt B j x w → v ≡ w → c.0 ≡ d.0
  one_commit A B c d i j x v w a b p q e =
      same_commit laws P h A B c d a b (h.writes A B i j x v a.txn b.txn p (subst (λ u. WritesPairAt B j x u) (sym e) q)).0

  -- who read what A wrote last started after A's commit
  handed : (A B : Txn) (c d : Stamp) (x : List ℕ) → Commits P A c → Commits P B d → HandsOver A B x → c.0 < B.start.0
  handed A B c d x a b s = elim (held B d s.place x (Some s.value) b s.read) [
    | inl left ↦ (
        let one = one_commit A left.2.writer c left.2.commit s.wrote.place left.2.wrote.place x s.value left.0 a left.2.commits s.wrote.is left.2.wrote.is (same_some left.1) in
        let before = left.2.before in
        omega (arith, one, before)
        )
    | inr none ↦ absurd (not_initial A s.wrote.place x s.value a.txn s.wrote.is (sym none.1))
  ]

  -- who read a version didn't start after the commit of one that had read it too and wrote the key
  not_behind : (A B : Txn) (c d : Stamp) (x : List ℕ) → Commits P A c → Commits P B d → IsOverwrittenBy A B x → d.0 < A.start.0 → ⊥
  not_behind A B c d x a b s late =
      let u : CommitsWrite P B d x = record { commits = b; place = s.overwrites.later; value = s.overwrites.value; writes = s.overwrites.writes } in
      let forward : B.start.0 ≤ d.0 = h.forward B d b.txn (ap commit_of b.committed) in
      elim (held A c s.place x s.version a s.read) [
        | inl left ↦ elim (held B d s.overwrites.place x s.version b s.overwrites.read) [
          | inl seen ↦ (
              let one = one_commit left.2.writer seen.2.writer left.2.commit seen.2.commit left.2.wrote.place seen.2.wrote.place x left.0 seen.0
              left.2.commits seen.2.commits left.2.wrote.is seen.2.wrote.is (same_some (sym left.1 ∙ seen.1)) in
              let last = left.2.last B d u late in
              let before = seen.2.before in
              omega (arith, one, last, before, forward)
              )
          | inr none ↦ not_initial left.2.writer left.2.wrote.place x left.0 left.2.commits.txn left.2.wrote.is (sym none.1 ∙ left.1)
        ]
        | inr none ↦ none.0 B d u late
      ]

  pub no_fork : (x : List ℕ) (a b : TxnId) → IsFork P x a b → ⊥
  no_fork x a b f =
      let A = f.first in
      let B = f.second in
      let c = f.from.committed.0 in
      let d = f.to.committed.0 in
      let s : Commits P A c = record { txn = f.from.txn; committed = f.from.committed.1 } in
      let t : Commits P B d = record { txn = f.to.txn; committed = f.to.committed.1 } in
      let u : CommitsWrite P A c x = record { commits = s; place = f.one.later; value = f.one.value; writes = f.one.writes } in
      let w : CommitsWrite P B d x = record { commits = t; place = f.other.later; value = f.other.value; writes = f.other.writes } in
      let differ : A.id ≢ B.id = λ same. f.differ (sym f.from.id ∙ same ∙ f.to.id) in
      elim (snap.apart A B c d x u w differ) [
        | inl before ↦ not_behind B A d c x t s (record { version = f.version; place = f.other.place; read = f.other.read; overwrites = f.one }) before
        | inr behind ↦ not_behind A B c d x s t (record { version = f.version; place = f.one.place; read = f.one.read; overwrites = f.other }) behind
      ]

  -- ---- along a walk

  -- how far behind the stamp n an edge comes: before its last transaction's start, or by an rw edge at least before its commit
  pub record Comes (n : ℕ) (e : Edge) : Type 0 where
    pub txn : Txn
    pub commit : Stamp
    pub node : IsNode P e.to txn commit
    pub behind : (n < txn.start.0) ⊎ ((is_rw_edge e ≡ true) × (n < commit.0))

  node_of : (u : TxnId) (T : Txn) (k : IsCommitted P u T) → IsNode P u T k.committed.0
  node_of u T k = record { txn = k.txn; id = k.id; committed = k.committed.1 }

  forward_of : (u : TxnId) (T : Txn) (c : Stamp) → IsNode P u T c → T.start.0 ≤ c.0
  forward_of u T c n = h.forward T c n.txn (ap commit_of n.committed)

  -- by one edge more
  further : (n : ℕ) (e : Edge) (f : KeyedEdge) → Comes n e → IsNoRwPair e f.edge → IsValueEdge P f → f.edge.from ≡ e.to → Comes n f.edge
  further n e f k spaced is meets = record { txn = is.second; commit = is.to.committed.0; node = node_of f.edge.to is.second is.to; behind = go f.edge.label refl }
    where
      A : Txn
      A = is.first

      c : Stamp
      c = is.from.committed.0

      one : (k.txn ≡ A) × (k.commit ≡ c)
      one = same_node P h e.to k.txn A k.commit c k.node (subst (λ u. IsNode P u A c) meets (node_of f.edge.from A is.from))

      start : k.txn.start.0 ≡ A.start.0
      start = ap (λ (T : Txn). T.start.0) one.0

      commit : k.commit.0 ≡ c.0
      commit = ap (λ (s : Stamp). s.0) one.1

      forward : A.start.0 ≤ c.0
      forward = forward_of f.edge.from A c (node_of f.edge.from A is.from)

      before_commit : n < c.0
      before_commit = elim k.behind [ inl s ↦ omega (arith, s, start, forward) | inr s ↦ omega (arith, s.1, commit) ]

      s : Commits P A c
      s = record { txn = is.from.txn; committed = is.from.committed.1 }

      t : Commits P is.second is.to.committed.0
      t = record { txn = is.to.txn; committed = is.to.committed.1 }

      go : (l : Label) → f.edge.label ≡ l → (n < is.second.start.0) ⊎ ((is_rw_edge f.edge ≡ true) × (n < is.to.committed.0.0))
      go label.Wr e_l = (let next = handed A is.second c is.to.committed.0 f.key s t (subst (λ l. IsByValue l A is.second f.key) e_l is.by) in inl (omega (arith, next, before_commit)))
      go label.Rw e_l = (
          let rw : is_rw_edge f.edge ≡ true = ap is_rw e_l in
          let late = not_behind A is.second c is.to.committed.0 f.key s t (subst (λ l. IsByValue l A is.second f.key) e_l is.by) in
          elim k.behind [
            | inl b ↦ (let reached = not_less A.start.0 is.to.committed.0.0 late in inr (rw, omega (arith, b, start, reached)))
            | inr b ↦ absurd (spaced b.0 rw)
          ]
          )
      go label.Ww e_l = absurd (subst (λ l. IsByValue l A is.second f.key) e_l is.by)
      go label.St e_l = absurd (subst (λ l. IsByValue l A is.second f.key) e_l is.by)

  -- by the edges of a walk, up to its end
  along : (n : ℕ) (first e : Edge) (es : List KeyedEdge) (goal : TxnId) → Comes n e → ((f : KeyedEdge) → Contains es f → IsValueEdge P f) → IsWalk e.to (edges_of es) goal → AreSpaced first e (edges_of es)
      → (l : Edge) × Comes n l × (l.to ≡ goal) × IsNoRwPair l first
  along n first e [] goal k edges walk spaced = (e, k, walk, spaced)
  along n first e (f ∷ fs) goal k edges walk spaced =
      along n first f.edge fs goal (further n e f k spaced.0 (edges f (here f fs)) walk.0) (λ g is. edges g (there f fs g is)) walk.1 spaced.1

  -- where it comes back to the transaction at which it began
  closes : (n : ℕ) (e l : Edge) (T : Txn) (c : Stamp) → IsNode P e.from T c → Comes n l → l.to ≡ e.from → ((n < T.start.0) ⊎ ((is_rw_edge l ≡ true) × (n < c.0)))
  closes n e l T c node k meets =
      let one = same_node P h e.from k.txn T k.commit c (subst (λ u. IsNode P u k.txn k.commit) meets k.node) node in
      let start : k.txn.start.0 ≡ T.start.0 = ap (λ (U : Txn). U.start.0) one.0 in
      let commit : k.commit.0 ≡ c.0 = ap (λ (s : Stamp). s.0) one.1 in
      elim k.behind [ inl b ↦ inl (omega (arith, b, start)) | inr b ↦ inr (b.0, omega (arith, b.1, commit)) ]

  -- an edge and the next one, which isn't an rw edge if the first one is
  second_comes : (e f : KeyedEdge) (is : IsValueEdge P e) → IsValueEdge P f → f.edge.from ≡ e.edge.to → e.edge.label ≡ label.Rw → IsNoRwPair e.edge f.edge → Comes is.first.start.0 f.edge
  second_comes e f is next meets e_l spaced = record { txn = next.second; commit = next.to.committed.0; node = node_of f.edge.to next.second next.to; behind = go f.edge.label refl }
    where
      T : Txn
      T = is.first

      B : Txn
      B = is.second

      d : Stamp
      d = is.to.committed.0

      s : Commits P T is.from.committed.0
      s = record { txn = is.from.txn; committed = is.from.committed.1 }

      t : Commits P B d
      t = record { txn = is.to.txn; committed = is.to.committed.1 }

      u : Commits P next.first next.from.committed.0
      u = record { txn = next.from.txn; committed = next.from.committed.1 }

      v : Commits P next.second next.to.committed.0
      v = record { txn = next.to.txn; committed = next.to.committed.1 }

      one : d.0 ≡ next.from.committed.0.0
      one = same_commit laws P h B next.first d next.from.committed.0 t u (is.to.id ∙ sym meets ∙ sym next.from.id)

      reaches : T.start.0 ≤ d.0
      reaches = not_less T.start.0 d.0 (not_behind T B is.from.committed.0 d e.key s t (subst (λ l. IsByValue l T B e.key) e_l is.by))

      go : (l : Label) → f.edge.label ≡ l → (T.start.0 < next.second.start.0) ⊎ ((is_rw_edge f.edge ≡ true) × (T.start.0 < next.to.committed.0.0))
      go label.Wr f_l = (
          let later = handed next.first next.second next.from.committed.0 next.to.committed.0 f.key u v (subst (λ l. IsByValue l next.first next.second f.key) f_l next.by) in
          inl (omega (arith, reaches, one, later))
          )
      go label.Rw f_l = absurd (spaced (ap is_rw e_l) (ap is_rw f_l))
      go label.Ww f_l = absurd (subst (λ l. IsByValue l next.first next.second f.key) f_l next.by)
      go label.St f_l = absurd (subst (λ l. IsByValue l next.first next.second f.key) f_l next.by)

  -- a closed walk that begins with a wr edge
  begins_wr : (e : KeyedEdge) (es : List KeyedEdge) → IsKnot P (e ∷ es) → e.edge.label ≡ label.Wr → ⊥
  begins_wr e es k e_l =
      let is = k.edges e (here e es) in
      let c = is.from.committed.0 in
      let node = node_of e.edge.from is.first is.from in
      let s : Commits P is.first c = record { txn = is.from.txn; committed = is.from.committed.1 } in
      let t : Commits P is.second is.to.committed.0 = record { txn = is.to.txn; committed = is.to.committed.1 } in
      let next = handed is.first is.second c is.to.committed.0 e.key s t (subst (λ l. IsByValue l is.first is.second e.key) e_l is.by) in
      let begun : Comes c.0 e.edge = record { txn = is.second; commit = is.to.committed.0; node = node_of e.edge.to is.second is.to; behind = inl next } in
      let end = along c.0 e.edge e.edge es e.edge.from begun (λ f at. k.edges f (there e es f at)) k.closed k.spaced in
      let forward : is.first.start.0 ≤ c.0 = forward_of e.edge.from is.first c node in
      elim (closes c.0 e.edge end.0 is.first c node end.1 end.2) [ inl b ↦ omega (arith, b, forward) | inr b ↦ omega (arith, b.1) ]

  -- and one that begins with an rw edge
  begins_rw : (e : KeyedEdge) (es : List KeyedEdge) → IsKnot P (e ∷ es) → e.edge.label ≡ label.Rw → ⊥
  begins_rw e [] k e_l = (k.edges e (here e [])).differ (sym k.closed)
  begins_rw e (f ∷ fs) k e_l =
      let is = k.edges e (here e (f ∷ fs)) in
      let next = k.edges f (there e (f ∷ fs) f (here f fs)) in
      let begun : Comes is.first.start.0 f.edge = second_comes e f is next k.closed.0 e_l k.spaced.0 in
      let end = along is.first.start.0 e.edge f.edge fs e.edge.from begun (λ g at. k.edges g (there e (f ∷ fs) g (there f fs g at))) k.closed.1 k.spaced.1 in
      elim (closes is.first.start.0 e.edge end.0 is.first is.from.committed.0 (node_of e.edge.from is.first is.from) end.1 end.2) [
        | inl b ↦ omega (arith, b)
        | inr b ↦ end.3 b.0 (ap is_rw e_l)
      ]

  pub no_knot : (es : List KeyedEdge) → IsKnot P es → ⊥
  no_knot [] k = k.closed
  no_knot (e ∷ es) k = go e.edge.label refl
    where
      go : (l : Label) → e.edge.label ≡ l → ⊥
      go label.Wr e_l = begins_wr e es k e_l
      go label.Rw e_l = begins_rw e es k e_l
      go label.Ww e_l = (let is = k.edges e (here e es) in subst (λ l. IsByValue l is.first is.second e.key) e_l is.by)
      go label.St e_l = (let is = k.edges e (here e es) in subst (λ l. IsByValue l is.first is.second e.key) e_l is.by)

-- ---- with other stamps

still_committed : (s t : Status) → IsSameOutcome s t → (c : Stamp) × (s ≡ status.Committed c) → (d : Stamp) × (t ≡ status.Committed d)
still_committed (status.Committed c) (status.Committed d) same is = (d, refl)
still_committed (status.Committed c) status.Aborted same is = absurd same
still_committed (status.Committed c) status.InDoubt same is = absurd same
still_committed status.Aborted t same is = cc
still_committed status.InDoubt t same is = cc

module _ (P Q : Present) (other : HasOtherStamps P Q) where
  -- who is committed stands there with other stamps, and reads and writes the same
  committed : (u : TxnId) (T : Txn) → IsCommitted P u T → (U : Txn) × IsCommitted Q u U × (T.ops ≡ U.ops)
  committed u T k =
      let U = other.kept T k.txn in
      (U.0, record { txn = U.1; id = U.2.id ∙ k.id; committed = still_committed T.status U.0.status U.2.outcome k.committed }, sym U.2.ops)

  same_last : (T U : Txn) (x : List ℕ) (v : Value) → T.ops ≡ U.ops → IsLastWrite T x v → IsLastWrite U x v
  same_last T U x v e w = record {
    place = w.place;
    is = subst (λ ops. slice_get ops w.place ≡ Some (op.Write x v)) e w.is;
    last = λ j u at. w.last j u (subst (λ ops. slice_get ops j ≡ Some (op.Write x u)) (sym e) at);
  }

  same_first : (T U : Txn) (i : ℕ) (x : List ℕ) (v : Option Value) → T.ops ≡ U.ops → ReadsFirst T i x v → ReadsFirst U i x v
  same_first T U i x v e r = record {
    reads = subst (λ ops. slice_get ops i ≡ Some (op.Read x v)) e r.reads;
    unwritten = λ j w at. r.unwritten j w (subst (λ ops. slice_get ops j ≡ Some (op.Write x w)) (sym e) at);
  }

  same_both : (T U : Txn) (x : List ℕ) (v : Option Value) → T.ops ≡ U.ops → ReadsAndWrites T x v → ReadsAndWrites U x v
  same_both T U x v e b = record {
    place = b.place;
    read = same_first T U b.place x v e b.read;
    later = b.later;
    value = b.value;
    writes = subst (λ ops. slice_get ops b.later ≡ Some (op.Write x b.value)) e b.writes;
  }

  pub same_fork : (x : List ℕ) (a b : TxnId) → IsFork P x a b → IsFork Q x a b
  same_fork x a b f =
      let A = committed a f.first f.from in
      let B = committed b f.second f.to in
      record {
        first = A.0;
        second = B.0;
        from = A.1;
        to = B.1;
        differ = f.differ;
        version = f.version;
        one = same_both f.first A.0 x f.version A.2 f.one;
        other = same_both f.second B.0 x f.version B.2 f.other;
      }

  same_by : (l : Label) (A B C D : Txn) (x : List ℕ) → A.ops ≡ C.ops → B.ops ≡ D.ops → IsByValue l A B x → IsByValue l C D x
  same_by label.Wr A B C D x e f s = record { value = s.value; wrote = same_last A C x s.value e s.wrote; place = s.place; read = same_first B D s.place x (Some s.value) f s.read }
  same_by label.Rw A B C D x e f s = record { version = s.version; place = s.place; read = same_first A C s.place x s.version e s.read; overwrites = same_both B D x s.version f s.overwrites }
  same_by label.Ww A B C D x e f s = s
  same_by label.St A B C D x e f s = s

  same_edge : (e : KeyedEdge) → IsValueEdge P e → IsValueEdge Q e
  same_edge e k =
      let A = committed e.edge.from k.first k.from in
      let B = committed e.edge.to k.second k.to in
      record { first = A.0; second = B.0; from = A.1; to = B.1; differ = k.differ; by = same_by e.edge.label k.first k.second A.0 B.0 e.key A.2 B.2 k.by }

  pub same_knot : (es : List KeyedEdge) → IsKnot P es → IsKnot Q es
  same_knot es k = record { edges = λ e is. same_edge e (k.edges e is); closed = k.closed; spaced = k.spaced }

pub no_stamps_mend_fork : ModelLaws → (P Q : Present) (x : List ℕ) (a b : TxnId) → IsFork P x a b → HasOtherStamps P Q → IsHistory Q → findings Q ≡ [] → ⊥
no_stamps_mend_fork laws P Q x a b f other h none = no_fork laws Q h ((snapshots_clean laws Q h).0 none) x a b (same_fork P Q other x a b f)

pub no_stamps_mend_knot : ModelLaws → (P Q : Present) (es : List KeyedEdge) → IsKnot P es → HasOtherStamps P Q → IsHistory Q → findings Q ≡ [] → ⊥
no_stamps_mend_knot laws P Q es k other h none = no_knot laws Q h ((snapshots_clean laws Q h).0 none) es (same_knot P Q other es k)
