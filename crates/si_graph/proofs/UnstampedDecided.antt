-- The tests decide which forks and knots there are.
use Rattle.std.proofs.Common.{◌≡◌, ◌≢◌, ◌∙◌, ◌⊎◌, inl, inr, ℕ, ◌<◌, zero, suc, List, [], ◌∷◌, Option, Some, None, refl, sym, ap, subst, arith, slice_get}
use Rattle.std.specs.Bool.{Decides}
use Rattle.std.specs.List.{Contains}
use Rattle.std.proofs.lemmas.Bool.Decides.{Decides-not, Decides-and, Decides-or, Decides-like}
use Rattle.si_model.specs.declared.numbers.TxnId.{TxnId}
use Rattle.si_model.specs.declared.numbers.Value.{Value}
use Rattle.si_model.specs.declared.operations.Op.{Op}
use Rattle.si_model.specs.declared.operations.Op.TheVariants as op
use Rattle.si_model.specs.declared.transactions.Txn.{Txn}
use Rattle.si_model.specs.declared.evidence.Label.{Label}
use Rattle.si_model.specs.declared.evidence.Label.TheVariants as label
use Rattle.si_model.specs.declared.evidence.Edge.{Edge}
use Rattle.si_model.specs.declared.evidence.KeyedEdge.{KeyedEdge}
use Rattle.si_model.specs.Parts.{Present, accesses}
use Rattle.si_model.specs.Versions.{last_write}
use Rattle.si_model.specs.History.{IsHistory}
use Rattle.si_graph.specs.Walks.{IsClosed, is_rw_edge}
use Rattle.si_graph.specs.Unstamped.{IsCommitted, ReadsFirst, ReadsAndWrites, IsFork, HandsOver, IsOverwrittenBy, IsByValue, IsValueEdge, IsNoRwPair, AreSpaced, HasNoRwPair, edges_of, IsKnot}
use Rattle.si_graph.specs.EvidenceTests.{part_on, last_on, is_closed, is_write_of, write_key, read_first, read_alike, is_overwritten, are_forked, reads_some_first, is_by_value, are_joined, is_value_edge, is_no_rw_pair, are_spaced, has_no_rw_pair, is_fork, is_knot}
use Rattle.si_graph.specs.Laws.{ModelLaws}
use Rattle.si_lists.proofs.Members.{same_some}
use Rattle.si_graph.proofs.ListTests.{any_decides, all_decides}
use Rattle.si_graph.proofs.OnKeys.{values_decide, last_is, last_from}
use Rattle.si_graph.proofs.EdgesDecided.{ArePair, HasCommitted, committed_decides, both_decide}

-- ---- what operations read first

-- they read x before they wrote it, and that returned v
abbrev ReadFirst : List ℕ → Option Value → List Op → Type 0
ReadFirst x v ps = (i : ℕ) × (slice_get ps i ≡ Some (op.Read x v)) × ((j : ℕ) (w : Value) → slice_get ps j ≡ Some (op.Write x w) → j < i → ⊥)

now_first : (x : List ℕ) (v : Option Value) (p : Op) (ps : List Op) → p ≡ op.Read x v → ReadFirst x v (p ∷ ps)
now_first x v p ps e = (zero, ap Some e, λ j w at lt. absurd (omega (arith, lt)))

later_first : (x : List ℕ) (v : Option Value) (p : Op) (ps : List Op) → ((w : Value) → p ≡ op.Write x w → ⊥) → ReadFirst x v ps → ReadFirst x v (p ∷ ps)
later_first x v p ps unwritten r = (suc r.0, r.1, before)
  where
    before : (j : ℕ) (w : Value) → slice_get (p ∷ ps) j ≡ Some (op.Write x w) → j < suc r.0 → ⊥
    before zero w e lt = unwritten w (same_some e)
    before (suc j) w e lt = r.2 j w e (omega (arith, lt))

first_cases : (x : List ℕ) (v : Option Value) (p : Op) (ps : List Op) → ReadFirst x v (p ∷ ps) → (p ≡ op.Read x v) ⊎ (ReadFirst x v ps × ((w : Value) → p ≡ op.Write x w → ⊥))
first_cases x v p ps r = by r.0 r.1 r.2
  where
    by : (i : ℕ) → slice_get (p ∷ ps) i ≡ Some (op.Read x v) → ((j : ℕ) (w : Value) → slice_get (p ∷ ps) j ≡ Some (op.Write x w) → j < i → ⊥) → (p ≡ op.Read x v) ⊎ (ReadFirst x v ps × ((w : Value) → p ≡ op.Write x w → ⊥))
    by zero e none = inl (same_some e)
    by (suc i) e none = inr ((i, e, λ j w at lt. none (suc j) w at (omega (arith, lt))), λ w is. none zero w (ap Some is) (omega arith))

read_is : (x y : List ℕ) (v w : Option Value) → y ≡ x → w ≡ v → op.Read y w ≡ op.Read x v
read_is x y v w key value = cc

-- what one of them read first the others read first too
abbrev ReadAlike : List ℕ → List Op → List Op → Type 0
ReadAlike x ps qs = (v : Option Value) × ReadFirst x v ps × ReadFirst x v qs

-- one of them writes x
abbrev WriteKey : List ℕ → List Op → Type 0
WriteKey x ps = (i : ℕ) × (w : Value) × (slice_get ps i ≡ Some (op.Write x w))

module _ (laws : ModelLaws) where
  first_decides : (x : List ℕ) (v : Option Value) (ps : List Op) → Decides (read_first x v ps) (ReadFirst x v ps)
  first_decides x v [] = (λ e. cc, λ r. (let f = r.1 in cc))
  first_decides x v (op.Read y w ∷ ps) = Decides-like _
      (λ s. elim s [ inl e ↦ now_first x v (op.Read y w) ps (read_is x y v w e.0 e.1) | inr r ↦ later_first x v (op.Read y w) ps (λ u is. cc) r ])
      (λ r. elim (first_cases x v (op.Read y w) ps r) [ inl e ↦ inl (cc, cc) | inr q ↦ inr q.0 ])
      (Decides-or _ _ (Decides-and _ _ (laws.tests.keys y x) (values_decide laws w v)) (first_decides x v ps))
  first_decides x v (op.Write y w ∷ ps) = Decides-like _
      (λ r. later_first x v (op.Write y w) ps (λ u is. r.0 cc) r.1)
      (λ r. elim (first_cases x v (op.Write y w) ps r) [ inl e ↦ absurd cc | inr q ↦ (λ same. q.1 w (ap (λ k. op.Write k w) same), q.0) ])
      (Decides-and _ _ (Decides-not _ (laws.tests.keys y x)) (first_decides x v ps))

  alike_decides : (x : List ℕ) (ps qs : List Op) → Decides (read_alike x ps qs) (ReadAlike x ps qs)
  alike_decides x [] qs = (λ e. cc, λ r. (let f = r.1.1 in cc))
  alike_decides x (op.Read y v ∷ ps) qs = Decides-like _
      (λ s. elim s [ inl e ↦ (v, now_first x v (op.Read y v) ps (read_is x y v v e.0 refl), e.1) | inr r ↦ (r.0, later_first x r.0 (op.Read y v) ps (λ u is. cc) r.1, r.2) ])
      (λ r. elim (first_cases x r.0 (op.Read y v) ps r.1) [ inl e ↦ inl (cc, subst (λ o. ReadFirst x o qs) (let same : r.0 ≡ v = cc in same) r.2) | inr q ↦ inr (r.0, q.0, r.2) ])
      (Decides-or _ _ (Decides-and _ _ (laws.tests.keys y x) (first_decides x v qs)) (alike_decides x ps qs))
  alike_decides x (op.Write y w ∷ ps) qs = Decides-like _
      (λ r. (r.1.0, later_first x r.1.0 (op.Write y w) ps (λ u is. r.0 cc) r.1.1, r.1.2))
      (λ r. elim (first_cases x r.0 (op.Write y w) ps r.1) [ inl e ↦ absurd cc | inr q ↦ (λ same. q.1 w (ap (λ k. op.Write k w) same), (r.0, q.0, r.2)) ])
      (Decides-and _ _ (Decides-not _ (laws.tests.keys y x)) (alike_decides x ps qs))

  write_of_decides : (x : List ℕ) (p : Op) → Decides (is_write_of x p) ((w : Value) × (p ≡ op.Write x w))
  write_of_decides x (op.Read y v) = (λ e. cc, λ r. (let f = r.1 in cc))
  write_of_decides x (op.Write y w) = Decides-like _ (λ e. (w, ap (λ k. op.Write k w) e)) (λ r. (let f = r.1 in cc)) (laws.tests.keys y x)

  pub write_decides : (x : List ℕ) (ps : List Op) → Decides (write_key x ps) (WriteKey x ps)
  write_decides x ps = Decides-like _ (λ r. (r.0, r.3.0, r.2 ∙ ap Some r.3.1)) (λ r. (r.0, op.Write x r.1, r.2, (r.1, refl)))
      (any_decides (is_write_of x) (λ p. (w : Value) × (p ≡ op.Write x w)) (write_of_decides x) ps)

  abbrev Overwritten : List ℕ → Txn → Txn → Type 0
  Overwritten x A B = WriteKey x B.ops × ReadAlike x A.ops B.ops

  overwritten_decides : (x : List ℕ) (A B : Txn) → Decides (is_overwritten x A B) (Overwritten x A B)
  overwritten_decides x A B = Decides-and _ _ (write_decides x B.ops) (alike_decides x A.ops B.ops)

  first_read : (T : Txn) (x : List ℕ) (v : Option Value) (r : ReadFirst x v T.ops) → ReadsFirst T r.0 x v
  first_read T x v r = record { reads = r.1; unwritten = r.2 }

  read_first_of : (T : Txn) (i : ℕ) (x : List ℕ) (v : Option Value) → ReadsFirst T i x v → ReadFirst x v T.ops
  read_first_of T i x v r = (i, r.reads, r.unwritten)

  both_of : (T : Txn) (x : List ℕ) (v : Option Value) → ReadFirst x v T.ops → WriteKey x T.ops → ReadsAndWrites T x v
  both_of T x v r w = record { place = r.0; read = first_read T x v r; later = w.0; value = w.1; writes = w.2 }

  overwritten_is : (x : List ℕ) (A B : Txn) → Overwritten x A B → IsOverwrittenBy A B x
  overwritten_is x A B r = record { version = r.1.0; place = r.1.1.0; read = first_read A x r.1.0 r.1.1; overwrites = both_of B x r.1.0 r.1.2 r.0 }

  overwritten_from : (x : List ℕ) (A B : Txn) → IsOverwrittenBy A B x → Overwritten x A B
  overwritten_from x A B s = let b = s.overwrites in ((b.later, b.value, b.writes), (s.version, read_first_of A s.place x s.version s.read, read_first_of B b.place x s.version b.read))

  module _ (P : Present) (h : IsHistory P) where
    -- ---- forks

    abbrev Forked : List ℕ → Txn → Txn → Type 0
    Forked x A B = HasCommitted A × (HasCommitted B × (WriteKey x A.ops × Overwritten x A B))

    fork_is : (x : List ℕ) (a b : TxnId) → (a ≢ b) × ArePair P (Forked x) a b → IsFork P x a b
    fork_is x a b s =
        let p = s.1 in
        let r = p.related.1.1.1 in
        record {
          first = p.first;
          second = p.second;
          from = record { txn = p.from; id = p.from_id; committed = p.related.0 };
          to = record { txn = p.to; id = p.to_id; committed = p.related.1.0 };
          differ = s.0;
          version = r.1.0;
          one = both_of p.first x r.1.0 r.1.1 p.related.1.1.0;
          other = both_of p.second x r.1.0 r.1.2 r.0;
        }

    fork_from : (x : List ℕ) (a b : TxnId) → IsFork P x a b → (a ≢ b) × ArePair P (Forked x) a b
    fork_from x a b f = (
      f.differ,
      record {
        first = f.first;
        second = f.second;
        from = f.from.txn;
        to = f.to.txn;
        from_id = f.from.id;
        to_id = f.to.id;
        related = (
          f.from.committed,
          (
            f.to.committed,
            (
              (f.one.later, f.one.value, f.one.writes),
              (
                (f.other.later, f.other.value, f.other.writes),
                (
                  f.version,
                  read_first_of f.first f.one.place x f.version f.one.read,
                  read_first_of f.second f.other.place x f.version f.other.read,
                ),
              ),
            ),
          ),
        );
      },
    )

    pub fork_decides : (x : List ℕ) (a b : TxnId) → Decides (is_fork P x a b) (IsFork P x a b)
    fork_decides x a b = Decides-like _ (fork_is x a b) (fork_from x a b)
        (Decides-and _ _ (Decides-not _ (laws.tests.ids a b))
        (both_decide laws P h (are_forked x) (Forked x) (λ A B t u. Decides-and _ _ (committed_decides A) (Decides-and _ _ (committed_decides B) (Decides-and _ _ (write_decides x A.ops) (overwritten_decides x A B)))) a b))

    -- ---- edges by value

    abbrev HandedOver : List ℕ → Txn → Txn → Type 0
    HandedOver x A B = (v : Value) × (last_write (accesses x A.ops) ≡ Some v) × ReadFirst x (Some v) B.ops

    handed_decides : (x : List ℕ) (A B : Txn) → Decides (reads_some_first x (last_on x A) B) (HandedOver x A B)
    unfolding last_on
    handed_decides x A B = by (last_write (accesses x A.ops))
      where
        by : (o : Option Value) → Decides (reads_some_first x o B) ((v : Value) × (o ≡ Some v) × ReadFirst x (Some v) B.ops)
        by None = (λ e. cc, λ r. (let f = r.1 in cc))
        by (Some v) = Decides-like _ (λ r. (v, refl, r)) (λ r. subst (λ w. ReadFirst x (Some w) B.ops) (sym (same_some r.1)) r.2) (first_decides x (Some v) B.ops)

    abbrev ByValue : Label → List ℕ → Txn → Txn → Type 0
    ByValue label.Ww x A B = ⊥
    ByValue label.Wr x A B = HandedOver x A B
    ByValue label.Rw x A B = Overwritten x A B
    ByValue label.St x A B = ⊥

    by_value_decides : (l : Label) (x : List ℕ) (A B : Txn) → Decides (is_by_value l x A B) (ByValue l x A B)
    by_value_decides label.Ww x A B = (λ e. cc, λ r. absurd r)
    by_value_decides label.Wr x A B = handed_decides x A B
    by_value_decides label.Rw x A B = overwritten_decides x A B
    by_value_decides label.St x A B = (λ e. cc, λ r. absurd r)

    by_value_is : (l : Label) (x : List ℕ) (A B : Txn) → Contains P.txns A → HasCommitted A → ByValue l x A B → IsByValue l A B x
    by_value_is label.Ww x A B a c r = r
    by_value_is label.Wr x A B a c r = record { value = r.0; wrote = last_is laws x P h A r.0 a c.0 c.1 r.1; place = r.2.0; read = first_read B x (Some r.0) r.2 }
    by_value_is label.Rw x A B a c r = overwritten_is x A B r
    by_value_is label.St x A B a c r = r

    by_value_from : (l : Label) (x : List ℕ) (A B : Txn) → Contains P.txns A → IsByValue l A B x → ByValue l x A B
    by_value_from label.Ww x A B a s = s
    by_value_from label.Wr x A B a s = (s.value, last_from laws x P h A s.value a s.wrote, read_first_of B s.place x (Some s.value) s.read)
    by_value_from label.Rw x A B a s = overwritten_from x A B s
    by_value_from label.St x A B a s = s

    abbrev Joined : KeyedEdge → Txn → Txn → Type 0
    Joined e A B = HasCommitted A × (HasCommitted B × ByValue e.edge.label e.key A B)

    edge_is : (e : KeyedEdge) → (e.edge.from ≢ e.edge.to) × ArePair P (Joined e) e.edge.from e.edge.to → IsValueEdge P e
    edge_is e s =
        let p = s.1 in
        record {
          first = p.first;
          second = p.second;
          from = record { txn = p.from; id = p.from_id; committed = p.related.0 };
          to = record { txn = p.to; id = p.to_id; committed = p.related.1.0 };
          differ = s.0;
          by = by_value_is e.edge.label e.key p.first p.second p.from p.related.0 p.related.1.1;
        }

    edge_from : (e : KeyedEdge) → IsValueEdge P e → (e.edge.from ≢ e.edge.to) × ArePair P (Joined e) e.edge.from e.edge.to
    edge_from e k = (
      k.differ,
      record {
        first = k.first;
        second = k.second;
        from = k.from.txn;
        to = k.to.txn;
        from_id = k.from.id;
        to_id = k.to.id;
        related = (k.from.committed, (k.to.committed, by_value_from e.edge.label e.key k.first k.second k.from.txn k.by));
      },
    )

    value_edge_decides : (e : KeyedEdge) → Decides (is_value_edge P e) (IsValueEdge P e)
    value_edge_decides e = Decides-like _ (edge_is e) (edge_from e)
        (Decides-and _ _ (Decides-not _ (laws.tests.ids e.edge.from e.edge.to))
        (both_decide laws P h (are_joined e) (Joined e) (λ A B t u. Decides-and _ _ (committed_decides A) (Decides-and _ _ (committed_decides B) (by_value_decides e.edge.label e.key A B))) e.edge.from e.edge.to))

    -- ---- knots

    pair_decides : (e f : Edge) → Decides (is_no_rw_pair e f) (IsNoRwPair e f)
    pair_decides e f = Decides-like _ (λ n a b. n (a, b)) (λ n r. n r.0 r.1) (Decides-not _ (Decides-and _ _ (λ q. q, λ q. q) (λ q. q, λ q. q)))

    spaced_decides : (first e : Edge) (es : List Edge) → Decides (are_spaced first e es) (AreSpaced first e es)
    spaced_decides first e [] = pair_decides e first
    spaced_decides first e (f ∷ fs) = Decides-and _ _ (pair_decides e f) (spaced_decides first f fs)

    no_pair_decides : (es : List Edge) → Decides (has_no_rw_pair es) (HasNoRwPair es)
    no_pair_decides [] = (λ e. tt, λ r. refl)
    no_pair_decides (e ∷ es) = spaced_decides e e es

    pub knot_decides : ((es : List Edge) → Decides (is_closed es) (IsClosed es)) → (es : List KeyedEdge) → Decides (is_knot P es) (IsKnot P es)
    knot_decides closed es = Decides-like _ (λ r. record { edges = r.1.1; closed = r.0; spaced = r.1.0 }) (λ k. (k.closed, (k.spaced, k.edges)))
        (Decides-and _ _ (closed (edges_of es)) (Decides-and _ _ (no_pair_decides (edges_of es)) (all_decides (is_value_edge P) (IsValueEdge P) value_edge_decides es)))
