-- Of a history in commit order without a finding: its ww, wr and rw edges go forward in the order of commits, so none of them is in
-- a cycle.
use Rattle.std.proofs.Common.{◌≡◌, ◌≢◌, ◌∙◌, inl, inr, ℕ, ◌≤◌, Some, false, List, [], ◌∷◌, refl, sym, ap, subst, arith}
use Rattle.std.specs.List.{Contains}
use Rattle.std.proofs.lemmas.Bool.{cases_order}
use Rattle.si_model.specs.declared.numbers.Stamp.{Stamp}
use Rattle.si_model.specs.declared.numbers.TxnId.{TxnId}
use Rattle.si_model.specs.declared.transactions.Txn.{Txn}
use Rattle.si_model.specs.declared.parts.Part.{Part}
use Rattle.si_model.specs.declared.evidence.Label.{Label}
use Rattle.si_model.specs.declared.evidence.Label.TheVariants as label
use Rattle.si_model.specs.declared.evidence.Edge.{Edge}
use Rattle.si_model.specs.Parts.{Present}
use Rattle.si_model.specs.Versions.{commit_of}
use Rattle.si_model.specs.Findings.{findings}
use Rattle.si_model.specs.History.{IsHistory}
use Rattle.si_model.specs.Form.{IsWellFormed}
use Rattle.si_graph.specs.Edges.{IsStartDependency, IsAntiDependency, Connects, IsEdge}
use Rattle.si_graph.specs.Walks.{IsWalk, IsClosed, IsCycle, is_rw, is_rw_edge}
use Rattle.si_graph.specs.Emptiness.{HasFinding}
use Rattle.si_graph.specs.Serial.{CommitsWrite, IsInCommitOrder}
use Rattle.si_graph.specs.SerialLaws.{CommitsBefore}
use Rattle.si_graph.specs.Serializability.{IsConflict, AreConflicts, IsPl3}
use Rattle.si_graph.specs.Laws.{ModelLaws}
use Rattle.si_lists.proofs.Members.{Contains-nil, here, there}
use Rattle.si_graph.proofs.OnKeys.{IsReadBy, read_by}
use Rattle.si_graph.proofs.StartEdges.{same_node}
use Rattle.si_graph.proofs.SerialReads.{writer_of, between}
use Rattle.si_graph.proofs.Found.{edge_starts, stale_found}
use Rattle.si_graph.proofs.Emptiness.{empty_both}

module _ (P : Present) (h : IsHistory P) where
  -- commits that follow one another
  chain_commits : (a b c : TxnId) → CommitsBefore P a b → CommitsBefore P b c → CommitsBefore P a c
  chain_commits a b c s t =
      let mid : s.later.0 ≡ t.commit.0 = ap (λ (k : Stamp). k.0) (same_node P h b s.second t.first s.later t.commit s.to t.from).1 in
      record { first = s.first; second = t.second; commit = s.commit; later = t.later; from = s.from; to = t.to; before = omega (arith, s.before, t.before, mid) }

  -- none is before itself
  no_commit_loop : (a : TxnId) → CommitsBefore P a a → ⊥
  no_commit_loop a s =
      let same : s.commit.0 ≡ s.later.0 = ap (λ (k : Stamp). k.0) (same_node P h a s.first s.second s.commit s.later s.from s.to).1 in
      omega (arith, s.before, same)

  walk_commits : (es : List Edge) (a m b : TxnId) → CommitsBefore P a m → ((e : Edge) → Contains es e → CommitsBefore P e.from e.to) → IsWalk m es b → CommitsBefore P a b
  walk_commits [] a m b s all w = subst (CommitsBefore P a) w s
  walk_commits (e ∷ es) a m b s all w =
      let step : CommitsBefore P m e.to = subst (λ k. CommitsBefore P k e.to) w.0 (all e (here e es)) in
      walk_commits es a e.to b (chain_commits a m e.to s step) (λ f c. all f (there e es f c)) w.1

  -- edges that go forward close no walk
  none_closed : (es : List Edge) → ((e : Edge) → Contains es e → CommitsBefore P e.from e.to) → IsClosed es → ⊥
  none_closed [] all closed = closed
  none_closed (e ∷ es) all closed = no_commit_loop e.from (walk_commits es e.from e.to e.from (all e (here e es)) (λ f c. all f (there e es f c)) closed)

-- a start edge goes forward
start_commits : (P : Present) → IsHistory P → (a b : TxnId) → IsStartDependency P a b → CommitsBefore P a b
start_commits P h a b s =
    let forward = h.forward s.second s.later s.to.txn (ap commit_of s.to.committed) in
    record { first = s.first; second = s.second; commit = s.commit; later = s.later; from = s.from; to = s.to; before = omega (arith, s.timed, forward) }

module _ (laws : ModelLaws) (P : Present) (h : IsHistory P) (ordered : IsInCommitOrder P) (none : findings P ≡ []) where
  empty : (n : ℕ) → HasFinding P n → ⊥
  empty n f = Contains-nil f.0 (subst (λ l. Contains l f.0) none f.1)

  form : IsWellFormed P
  form = ((empty_both laws P h).0 none).0

  -- an rw edge goes forward: who installs the next version commits at the reader's start or later, and so behind its commit
  anti_commits : (a b : TxnId) → a ≢ b → IsAntiDependency P a b → CommitsBefore P a b
  anti_commits a b differ d = record {
    first = r.txn;
    second = W.0;
    commit = r.committed.0;
    later = d.second.commit;
    from = record { txn = r.at; id = from; committed = r.committed.1 };
    to = record { txn = W.1.commits.txn; id = to; committed = W.1.commits.committed };
    before = elim (cases_order r.committed.0.0 d.second.commit.0) [
      | inl same ↦ absurd (apart (λ j. record { 0 = same j }))
      | inr rest ↦ elim rest [
        | inl before ↦ before
        | inr early ↦ absurd (between laws P h ordered r.txn W.0 r.committed.0 d.second.commit d.key (record { txn = r.at; committed = r.committed.1 }) W.1 late early)
      ]
    ];
  }
    where
      r : IsReadBy laws d.key P d.reader d.place d.value
      r = read_by laws d.key P d.reader d.place d.value d.read

      W : (U : Txn) × CommitsWrite P U d.second.commit d.key × (d.second.start ≡ U.start) × (d.second.txn ≡ U.id)
      W = writer_of laws P h d.key d.second d.next.installs

      from : r.txn.id ≡ a
      from = ap (λ (Q : Part). Q.id) (sym r.is) ∙ d.from

      to : W.0.id ≡ b
      to = sym W.3 ∙ d.to

      apart : r.committed.0 ≢ d.second.commit
      apart same = (h.stamps W.0 r.txn d.second.commit W.1.commits.txn r.at (λ e. differ (sym from ∙ sym e ∙ to)) (ap commit_of W.1.commits.committed) (W.1.place, d.key, W.1.value, W.1.writes)).1
          (ap commit_of r.committed.1 ∙ ap Some same)

      -- else an rw edge and a start edge back would be missed effects
      late : r.txn.start.0 ≤ d.second.commit.0
      late = elim (cases_order d.second.commit.0 r.txn.start.0) [
        | inl same ↦ omega (arith, same)
        | inr rest ↦ elim rest [
          | inl early ↦ absurd (empty 7 (stale_found laws P h form a b d (record {
            first = W.0;
            second = r.txn;
            commit = d.second.commit;
            later = r.committed.0;
            from = record { txn = W.1.commits.txn; id = to; committed = W.1.commits.committed };
            to = record { txn = r.at; id = from; committed = r.committed.1 };
            timed = early;
          })))
          | inr behind ↦ omega (arith, behind)
        ]
      ]

  -- each ww, wr and rw edge goes forward
  edge_commits : (e : Edge) → IsEdge P e → IsConflict e.label → CommitsBefore P e.from e.to
  edge_commits e is conflict = go e.label conflict refl is.connects
    where
      by_start : is_rw_edge e ≡ false → CommitsBefore P e.from e.to
      by_start plain = start_commits P h e.from e.to (edge_starts laws P h form (λ f. elim f [ inl g ↦ empty 6 g | inr g ↦ empty 8 g ]) e is plain)

      go : (l : Label) → IsConflict l → e.label ≡ l → Connects P l e.from e.to → CommitsBefore P e.from e.to
      go label.Ww c same d = by_start (ap is_rw same)
      go label.Wr c same d = by_start (ap is_rw same)
      go label.Rw c same d = anti_commits e.from e.to is.differ d
      go label.St c same d = absurd c

  pub acyclic : (es : List Edge) → IsCycle P es → AreConflicts es → ⊥
  acyclic es cycle conflicts = none_closed P h es (λ e c. edge_commits e (cycle.walk.edges e c) (conflicts e c)) cycle.walk.closed

  pub pl3 : IsPl3 P
  pl3 =
      let si = ((empty_both laws P h).0 none).1 in record {
        aborted_reads = si.aborted_reads;
        intermediate_reads = si.intermediate_reads;
        circular_flow = si.circular_flow;
        anti_dependency_cycles = λ c. acyclic c.0 c.1 c.2;
      }
