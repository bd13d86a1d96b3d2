-- The tests decide what an evidence shows.
use Rattle.std.proofs.Common.{◌≡◌, ◌≢◌, ◌∙◌, ℕ, ◌<◌, ◌≤◌, Bool, List, [], ◌∷◌, Option, Some, None, refl, sym, ap, subst, arith, slice_get}
use Rattle.std.specs.Bool.{Decides}
use Rattle.std.specs.List.{Contains, count_by}
use Rattle.std.proofs.lemmas.Bool.Decides.{Decides-eqb, Decides-ltb, Decides-not, Decides-and, Decides-like}
use Rattle.si_model.specs.declared.numbers.TxnId.{TxnId}
use Rattle.si_model.specs.declared.numbers.Stamp.{Stamp}
use Rattle.si_model.specs.declared.numbers.Value.{Value}
use Rattle.si_model.specs.declared.operations.Op.{Op}
use Rattle.si_model.specs.declared.operations.Op.TheVariants as op
use Rattle.si_model.specs.declared.transactions.Status.{Status}
use Rattle.si_model.specs.declared.transactions.Status.TheVariants as status
use Rattle.si_model.specs.declared.transactions.Txn.{Txn}
use Rattle.si_model.specs.declared.parts.Part.{Part}
use Rattle.si_model.specs.declared.evidence.Label.{Label}
use Rattle.si_model.specs.declared.evidence.Label.TheVariants as label
use Rattle.si_model.specs.declared.evidence.Edge.{Edge}
use Rattle.si_model.specs.declared.evidence.Evidence.{Evidence}
use Rattle.si_model.specs.declared.evidence.Evidence.TheVariants as evidence
use Rattle.si_model.specs.Parts.{Present, accesses, on_key}
use Rattle.si_model.specs.Versions.{Writes, commit_of, last_write}
use Rattle.si_model.specs.Reads.{IsRead}
use Rattle.si_model.specs.History.{IsHistory}
use Rattle.si_graph.specs.Edges.{IsEdge, IsDependency}
use Rattle.si_graph.specs.Walks.{IsWalk, IsClosed, is_rw_edge}
use Rattle.si_graph.specs.Phenomena.{IsAbortedRead, IsIntermediateRead}
use Rattle.si_graph.specs.Shown.{IsReadFrom, Shows}
use Rattle.si_graph.specs.EvidenceTests.{part_on, is_not_before, commits_late, is_edge, is_dependency, is_walk, is_closed, is_aborted, reads_write_of, reads_intermediate_of, passes_there, is_aborted_read, is_intermediate_read, holds}
use Rattle.si_graph.specs.Laws.{ModelLaws}
use Rattle.si_lists.proofs.Members.{same_some}
use Rattle.si_graph.proofs.ListTests.{all_decides}
use Rattle.si_graph.proofs.OnKeys.{part_from, read_by, read_at, writes_decides, part_of_write, last_decides, final_exact}
use Rattle.si_graph.proofs.EdgesDecided.{ArePair, HasCommitted, AreSoTimed, timed_is, timed_from, committed_decides, both_decide, edge_decides}
use Rattle.si_graph.proofs.UnstampedDecided.{fork_decides, knot_decides}

-- ---- tests of labels and statuses

dependency_decides : (l : Label) → Decides (is_dependency l) (IsDependency l)
dependency_decides label.Ww = (λ e. tt, λ r. refl)
dependency_decides label.Wr = (λ e. tt, λ r. refl)
dependency_decides label.Rw = (λ e. cc, λ r. absurd r)
dependency_decides label.St = (λ e. cc, λ r. absurd r)

aborted_decides : (s : Status) → Decides (is_aborted s) (s ≡ status.Aborted)
aborted_decides (status.Committed c) = (λ e. cc, λ r. cc)
aborted_decides status.Aborted = (λ e. refl, λ r. refl)
aborted_decides status.InDoubt = (λ e. cc, λ r. cc)

-- the transaction commits at the stamp or later
abbrev CommitsLate : Status → Stamp → Type 0
CommitsLate t s = (c : Stamp) × (t ≡ status.Committed c) × (s.0 ≤ c.0)

late_decides : (t : Status) (s : Stamp) → Decides (is_not_before (commit_of t) s) (CommitsLate t s)
late_decides (status.Committed c) s = Decides-like _
    (λ not. (c, refl, (let f : (c.0 < s.0 → ⊥) = not in omega (arith, f))))
    (λ r lt. (let same : c.0 ≡ r.0.0 = ap (λ k. k.0) (same_some (ap commit_of r.1)) in let le = r.2 in omega (arith, same, le, lt)))
    (Decides-not _ (Decides-ltb c.0 s.0))
late_decides status.Aborted s = (λ e. cc, λ r. (let f = r.1 in cc))
late_decides status.InDoubt s = (λ e. cc, λ r. (let f = r.1 in cc))

there_decides : (test : Op → Bool) (R : Op → Type 0) → ((p : Op) → Decides (test p) (R p)) → (o : Option Op) → Decides (passes_there test o) ((p : Op) × (o ≡ Some p) × R p)
there_decides test R each None = (λ e. cc, λ r. (let f = r.1 in cc))
there_decides test R each (Some p) = Decides-like _ (λ r. (p, refl, r)) (λ r. subst R (sym (same_some r.1)) r.2) (each p)

module _ (laws : ModelLaws) (P : Present) (h : IsHistory P) where
  -- ---- walks

  walk_decides : (a : TxnId) (es : List Edge) (b : TxnId) → Decides (is_walk a es b) (IsWalk a es b)
  walk_decides a [] b = laws.tests.ids a b
  walk_decides a (e ∷ es) b = Decides-and _ _ (laws.tests.ids e.from a) (walk_decides e.to es b)

  closed_decides : (es : List Edge) → Decides (is_closed es) (IsClosed es)
  closed_decides [] = (λ e. cc, λ r. absurd r)
  closed_decides (e ∷ es) = walk_decides e.to es e.from

  missed_decides : (es : List Edge) → Decides (holds P (evidence.Missed es)) (Shows P (evidence.Missed es))
  missed_decides es = Decides-like _ (λ r. (record { edges = r.1.1; closed = r.0 }, r.1.0)) (λ s. (s.0.closed, (s.1, s.0.edges)))
      (Decides-and _ _ (closed_decides es) (Decides-and _ _ (Decides-eqb (count_by is_rw_edge es) 1) (all_decides (is_edge P) (IsEdge P) (edge_decides laws P h) es)))

  -- ---- interference

  interference_decides : (e : Edge) → Decides (holds P (evidence.Interference e)) (Shows P (evidence.Interference e))
  interference_decides e = Decides-like _ (λ r. (r.1.0, r.0, timed_is P (λ c s. s ≤ c) e.from e.to r.1.1)) (λ s. (s.1, (s.0, timed_from P (λ c s. s ≤ c) e.from e.to s.2)))
      (Decides-and _ _ (dependency_decides e.label) (Decides-and _ _ (edge_decides laws P h e)
      (both_decide laws P h commits_late (AreSoTimed (λ c s. s ≤ c)) (λ A B a b. Decides-and _ _ (late_decides A.status B.start) (committed_decides B)) e.from e.to)))

  -- the transactions of a read and of a writer, where they are related
  pair_from : (x : List ℕ) (i : ℕ) (v : Value) (R S : Part) (u w : TxnId) (Related : Txn → Txn → Type 0) → IsRead (on_key x P) R i (Some v) → Contains (on_key x P).parts S → R.id ≡ u → S.id ≡ w
      → ((T W : Txn) → R ≡ part_on x T → S ≡ part_on x W → HasCommitted T → slice_get T.ops i ≡ Some (op.Read x (Some v)) → Related T W) → ArePair P Related u w
  pair_from x i v R S u w Related read writer reads writes related =
      let g = read_by laws x P R i (Some v) read in
      let f = part_from laws x P.txns S writer in
      record {
        first = g.txn;
        second = f.0;
        from = g.at;
        to = f.1;
        from_id = ap (λ Q. Q.id) (sym g.is) ∙ reads;
        to_id = ap (λ Q. Q.id) (sym f.2) ∙ writes;
        related = related g.txn f.0 g.is f.2 g.committed g.found;
      }

  -- ---- aborted reads

  -- the operation is a read that returned a value which W writes to its key
  abbrev ReadsWriteOf : Txn → Op → Type 0
  ReadsWriteOf W (op.Read x None) = ⊥
  ReadsWriteOf W (op.Read x (Some v)) = Writes (part_on x W) v
  ReadsWriteOf W (op.Write x v) = ⊥

  reads_write_decides : (W : Txn) (p : Op) → Decides (reads_write_of W p) (ReadsWriteOf W p)
  reads_write_decides W (op.Read x None) = (λ e. cc, λ r. absurd r)
  reads_write_decides W (op.Read x (Some v)) = writes_decides laws x v W
  reads_write_decides W (op.Write x v) = (λ e. cc, λ r. absurd r)

  abbrev ReadsAborted : ℕ → Txn → Txn → Type 0
  ReadsAborted i T W = HasCommitted T × ((W.status ≡ status.Aborted) × ((p : Op) × (slice_get T.ops i ≡ Some p) × ReadsWriteOf W p))

  aborted_is : (i : ℕ) (u w : TxnId) → ArePair P (ReadsAborted i) u w → IsReadFrom P IsAbortedRead u i w
  aborted_is i u w q = by q.related.1.1.0 q.related.1.1.1 q.related.1.1.2
    where
      by : (p : Op) → slice_get q.first.ops i ≡ Some p → ReadsWriteOf q.second p → IsReadFrom P IsAbortedRead u i w
      by (op.Read x None) g r = absurd r
      by (op.Write x v) g r = absurd r
      by (op.Read x (Some v)) g r = record {
        key = x;
        reader = part_on x q.first;
        writer = part_on x q.second;
        related = record {
          value = v;
          returned = read_at laws x P q.first q.related.0.0 i (Some v) q.from q.related.0.1 g;
          writer = part_of_write laws x P.txns q.second v q.to r;
          writes = r;
          aborted = q.related.1.0;
        };
        reads = q.from_id;
        writes = q.to_id;
      }

  aborted_from : (i : ℕ) (u w : TxnId) → IsReadFrom P IsAbortedRead u i w → ArePair P (ReadsAborted i) u w
  aborted_from i u w r =
      let k = r.related in
      pair_from r.key i k.value r.reader r.writer u w (ReadsAborted i) k.returned k.writer r.reads r.writes (λ T W from to committed found.
      (committed, (ap (λ Q. Q.status) (sym to) ∙ k.aborted, (op.Read r.key (Some k.value), found, subst (λ Q. Writes Q k.value) to k.writes))))

  -- ---- intermediate reads

  -- the same, and the value isn't W's last write of that key
  abbrev ReadsIntermediateOf : Txn → Op → Type 0
  ReadsIntermediateOf W (op.Read x None) = ⊥
  ReadsIntermediateOf W (op.Read x (Some v)) = Writes (part_on x W) v × (last_write (accesses x W.ops) ≢ Some v)
  ReadsIntermediateOf W (op.Write x v) = ⊥

  reads_intermediate_decides : (W : Txn) (p : Op) → Decides (reads_intermediate_of W p) (ReadsIntermediateOf W p)
  reads_intermediate_decides W (op.Read x None) = (λ e. cc, λ r. absurd r)
  reads_intermediate_decides W (op.Read x (Some v)) = Decides-and _ _ (writes_decides laws x v W) (Decides-not _ (last_decides laws x v W))
  reads_intermediate_decides W (op.Write x v) = (λ e. cc, λ r. absurd r)

  abbrev ReadsEarlier : ℕ → Txn → Txn → Type 0
  ReadsEarlier i T W = HasCommitted T × ((W.id ≢ T.id) × ((p : Op) × (slice_get T.ops i ≡ Some p) × ReadsIntermediateOf W p))

  intermediate_is : (i : ℕ) (u w : TxnId) → ArePair P (ReadsEarlier i) u w → IsReadFrom P IsIntermediateRead u i w
  intermediate_is i u w q = by q.related.1.1.0 q.related.1.1.1 q.related.1.1.2
    where
      by : (p : Op) → slice_get q.first.ops i ≡ Some p → ReadsIntermediateOf q.second p → IsReadFrom P IsIntermediateRead u i w
      by (op.Read x None) g r = absurd r
      by (op.Write x v) g r = absurd r
      by (op.Read x (Some v)) g r =
          let part = part_of_write laws x P.txns q.second v q.to r.0 in
          record {
            key = x;
            reader = part_on x q.first;
            writer = part_on x q.second;
            related = record {
              value = v;
              returned = read_at laws x P q.first q.related.0.0 i (Some v) q.from q.related.0.1 g;
              writer = part;
              another = q.related.1.0;
              writes = r.0;
              not_last = λ final. r.1 ((final_exact laws x P h q.second v part).1 final);
            };
            reads = q.from_id;
            writes = q.to_id;
          }

  intermediate_from : (i : ℕ) (u w : TxnId) → IsReadFrom P IsIntermediateRead u i w → ArePair P (ReadsEarlier i) u w
  intermediate_from i u w r =
      let k = r.related in
      let final = laws.last (on_key r.key P) r.writer k.value (laws.keys P r.key h) k.writer in
      pair_from r.key i k.value r.reader r.writer u w (ReadsEarlier i) k.returned k.writer r.reads r.writes (λ T W from to committed found. (
        committed,
        (
          λ same. k.another (ap (λ Q. Q.id) to ∙ same ∙ ap (λ Q. Q.id) (sym from)),
          (op.Read r.key (Some k.value), found, (subst (λ Q. Writes Q k.value) to k.writes, λ last. k.not_last (final.0 (ap (λ Q. last_write Q.accesses) to ∙ last)))),
        ),
      ))

  -- ---- evidence

  pub shown_decides : (e : Evidence) → Decides (holds P e) (Shows P e)
  shown_decides (evidence.AbortedRead t i w) = Decides-like _ (aborted_is i t w) (aborted_from i t w)
      (both_decide laws P h (is_aborted_read i) (ReadsAborted i) (λ T W t w. Decides-and _ _ (committed_decides T) (Decides-and _ _ (aborted_decides W.status) (there_decides (reads_write_of W) (ReadsWriteOf W) (reads_write_decides W) (slice_get T.ops i)))) t w)
  shown_decides (evidence.IntermediateRead t i w) = Decides-like _ (intermediate_is i t w) (intermediate_from i t w)
      (both_decide laws P h (is_intermediate_read i) (ReadsEarlier i)
      (λ T W t w. Decides-and _ _ (committed_decides T) (Decides-and _ _ (Decides-not _ (laws.tests.ids W.id T.id)) (there_decides (reads_intermediate_of W) (ReadsIntermediateOf W) (reads_intermediate_decides W) (slice_get T.ops i)))) t w)
  shown_decides (evidence.Interference e) = interference_decides e
  shown_decides (evidence.Missed es) = missed_decides es
  shown_decides (evidence.Fork x a b) = fork_decides laws P h x a b
  shown_decides (evidence.Knot es) = knot_decides laws P h closed_decides es
