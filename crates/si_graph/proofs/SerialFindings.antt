-- The findings of reads against what their keys held at a stamp, and, of a history in commit order, against the serial run in that order.
use Rattle.std.proofs.Common.{◌≡◌, ◌≢◌, ◌∙◌, inl, inr, ℕ, ◌<◌, ◌≤◌, Bool, true, false, cond, List, [], ◌∷◌, Option, Some, None, refl, sym, ap, subst, nat_lt, arith}
use Rattle.std.specs.Prelude.{◌↔◌}
use Rattle.std.specs.List.{Contains}
use Rattle.std.specs.Option.{option_eq}
use Rattle.std.proofs.lemmas.Bool.{cases_order, ltb-true}
use Rattle.si_model.specs.declared.numbers.Stamp.{Stamp}
use Rattle.si_model.specs.declared.numbers.TxnId.{TxnId}
use Rattle.si_model.specs.declared.numbers.Value.{Value}
use Rattle.si_model.specs.declared.operations.Op.TheVariants as op
use Rattle.si_model.specs.declared.parts.Access.TheVariants as access
use Rattle.si_model.specs.declared.transactions.Status.TheVariants as status
use Rattle.si_model.specs.declared.transactions.Txn.{Txn}
use Rattle.si_model.specs.declared.parts.Part.{Part}
use Rattle.si_model.specs.declared.sights.Installer.{Installer}
use Rattle.si_model.specs.declared.sights.Source.{Source}
use Rattle.si_model.specs.declared.sights.Source.TheVariants as source
use Rattle.si_model.specs.declared.sights.Sight.{Sight}
use Rattle.si_model.specs.declared.kinds.Kind.{Kind}
use Rattle.si_model.specs.declared.kinds.Kind.TheVariants as kind
use Rattle.si_model.specs.declared.findings.Finding.{Finding}
use Rattle.si_model.specs.Operations.{same_value}
use Rattle.si_model.specs.Parts.{Present, on_key}
use Rattle.si_model.specs.Versions.{Writes, commit_of}
use Rattle.si_model.specs.Reads.{IsRead, IsSight, IsSource, sight_of, judged_by_next, judged_by_source, judged_by_own, kind_of}
use Rattle.si_model.specs.Order.{number}
use Rattle.si_model.specs.Findings.{cases, IsOfRead, IsOfPair, IsFinding, findings}
use Rattle.si_model.specs.History.{WritesPairAt, IsHistory}
use Rattle.si_graph.specs.EvidenceTests.{part_on}
use Rattle.si_graph.specs.Laws.{ModelLaws}
use Rattle.si_graph.specs.Emptiness.{HasFinding}
use Rattle.si_graph.specs.Serial.{ReadsAt, Commits, CommitsWrite, IsInCommitOrder, Gives, IsSerial}
use Rattle.si_graph.specs.SerialLaws.{IsOfReadAt, CommitsBefore}
use Rattle.si_lists.proofs.Members.{same_some, Contains-nil, here}
use Rattle.si_graph.proofs.OnKeys.{IsReadBy, op_at, read_by, read_at, part_from}
use Rattle.si_graph.proofs.Sights.{not_own}
use Rattle.si_graph.proofs.SerialReads.{same_txn, writer_of, between, unjudged_is_given, given_is_unjudged}

-- ---- which read a kind is of

-- a kind that a read is judged to be of is of that read
told : (s : Sight) (j k : Kind) → IsOfReadAt s.txn s.op j → Some j ≡ Some k → IsOfReadAt s.txn s.op k
told s j k is e = subst (IsOfReadAt s.txn s.op) (same_some e) is

of_next : (s : Sight) (n : Option Installer) (k : Kind) → judged_by_next s n ≡ Some k → IsOfReadAt s.txn s.op k
of_next s None k e = cc
of_next s (Some n) k e = told s (kind.Stale s.txn s.op s.read n.txn) k (refl, refl) e

of_source : (s : Sight) (r : Source) (k : Kind) → judged_by_source s r ≡ Some k → IsOfReadAt s.txn s.op k
of_source s source.Missing k e = told s (kind.Unknown s.txn s.op s.read) k (refl, refl) e
of_source s (source.InDoubt u) k e = told s (kind.Doubt s.txn s.op s.read u) k (refl, refl) e
of_source s (source.Aborted u) k e = told s (kind.Aborted s.txn s.op s.read u) k (refl, refl) e
of_source s (source.Earlier u) k e = told s (kind.Intermediate s.txn s.op s.read u) k (refl, refl) e
of_source s (source.Installed u c) k e = go (nat_lt s.start.0 c.0) e
  where
    go : (b : Bool) → cond b (Some (kind.Future s.txn s.op s.read u)) (judged_by_next s s.missed) ≡ Some k → IsOfReadAt s.txn s.op k
    go true f = told s (kind.Future s.txn s.op s.read u) k (refl, refl) f
    go false f = of_next s s.missed k f
of_source s source.Initial k e = of_next s s.missed k e

of_own : (s : Sight) (o : Option Value) (b : Bool) (k : Kind) → judged_by_own s o b ≡ Some k → IsOfReadAt s.txn s.op k
of_own s (Some w) b k e = go (option_eq same_value s.read (Some w)) e
  where
    go : (t : Bool) → cond t None (Some (kind.Own s.txn s.op s.read (Some w))) ≡ Some k → IsOfReadAt s.txn s.op k
    go true f = cc
    go false f = told s (kind.Own s.txn s.op s.read (Some w)) k (refl, refl) f
of_own s None true k e = told s (kind.Own s.txn s.op s.read None) k (refl, refl) e
of_own s None false k e = of_source s s.source k e

pub of_read : (s : Sight) (k : Kind) → kind_of s ≡ Some k → IsOfReadAt s.txn s.op k
unfolding kind_of
of_read s k e = of_own s s.own s.later k e

-- it is of one read
one_read : (k : Kind) (a b : TxnId) (i j : ℕ) → IsOfReadAt a i k → IsOfReadAt b j k → (a ≡ b) × (i ≡ j)
one_read (kind.Unknown t l v) a b i j m n = (sym m.0 ∙ n.0, sym m.1 ∙ n.1)
one_read (kind.Doubt t l v w) a b i j m n = (sym m.0 ∙ n.0, sym m.1 ∙ n.1)
one_read (kind.Own t l v w) a b i j m n = (sym m.0 ∙ n.0, sym m.1 ∙ n.1)
one_read (kind.Aborted t l v w) a b i j m n = (sym m.0 ∙ n.0, sym m.1 ∙ n.1)
one_read (kind.Intermediate t l v w) a b i j m n = (sym m.0 ∙ n.0, sym m.1 ∙ n.1)
one_read (kind.Future t l v w) a b i j m n = (sym m.0 ∙ n.0, sym m.1 ∙ n.1)
one_read (kind.Stale t l v n) a b i j m o = (sym m.0 ∙ o.0, sym m.1 ∙ o.1)
one_read (kind.Overlap t u) a b i j m n = absurd m

-- and no overlap
pub no_overlap : (k : Kind) (a : TxnId) (i : ℕ) → IsOfReadAt a i k → number k ≡ 8 → ⊥
no_overlap (kind.Overlap t u) a i m e = m
no_overlap _ a i m e = omega arith

-- ---- what a read of the future is

record IsFuture (s : Sight) (t u : TxnId) : Type 0 where
  reader : s.txn ≡ t
  own : s.own ≡ None
  later : s.later ≡ false
  commit : Stamp
  from : s.source ≡ source.Installed u commit
  after : s.start.0 < commit.0

future_next : (s : Sight) (n : Option Installer) (t : TxnId) (i : ℕ) (v : Option Value) (u : TxnId) → judged_by_next s n ≡ Some (kind.Future t i v u) → ⊥
future_next s None t i v u e = cc
future_next s (Some n) t i v u e = cc

future_source : (s : Sight) (r : Source) (t : TxnId) (i : ℕ) (v : Option Value) (u : TxnId) → s.own ≡ None → s.later ≡ false → s.source ≡ r → judged_by_source s r ≡ Some (kind.Future t i v u) → IsFuture s t u
future_source s source.Missing t i v u own later is e = cc
future_source s (source.InDoubt w) t i v u own later is e = cc
future_source s (source.Aborted w) t i v u own later is e = cc
future_source s (source.Earlier w) t i v u own later is e = cc
future_source s (source.Installed w c) t i v u own later is e = go (nat_lt s.start.0 c.0) refl e
  where
    go : (b : Bool) → nat_lt s.start.0 c.0 ≡ b → cond b (Some (kind.Future s.txn s.op s.read w)) (judged_by_next s s.missed) ≡ Some (kind.Future t i v u) → IsFuture s t u
    go true late f =
        let same : w ≡ u = cc in record {
          reader = cc;
          own = own;
          later = later;
          commit = c;
          from = is ∙ ap (λ k. source.Installed k c) same;
          after = ltb-true s.start.0 c.0 late;
        }
    go false late f = absurd (future_next s s.missed t i v u f)
future_source s source.Initial t i v u own later is e = absurd (future_next s s.missed t i v u e)

future_own : (s : Sight) (o : Option Value) (b : Bool) (t : TxnId) (i : ℕ) (v : Option Value) (u : TxnId) → s.own ≡ o → s.later ≡ b → judged_by_own s o b ≡ Some (kind.Future t i v u) → IsFuture s t u
future_own s (Some w) b t i v u own later e = go (option_eq same_value s.read (Some w)) e
  where
    go : (c : Bool) → cond c None (Some (kind.Own s.txn s.op s.read (Some w))) ≡ Some (kind.Future t i v u) → IsFuture s t u
    go true f = cc
    go false f = cc
future_own s None true t i v u own later e = cc
future_own s None false t i v u own later e = future_source s s.source t i v u own later refl e

future_is : (s : Sight) (t : TxnId) (i : ℕ) (v : Option Value) (u : TxnId) → kind_of s ≡ Some (kind.Future t i v u) → IsFuture s t u
unfolding kind_of
future_is s t i v u e = future_own s s.own s.later t i v u refl refl e

module _ (laws : ModelLaws) (P : Present) (h : IsHistory P) where
  -- ---- a read and what its key held at a stamp from its transaction's start to its commit

  -- no write of the key is committed from the start of T to the stamp k
  abbrev pub IsQuiet : Txn → List ℕ → Stamp → Type 0
  IsQuiet T x k = (U : Txn) (d : Stamp) → CommitsWrite P U d x → T.start.0 ≤ d.0 → d.0 < k.0 → ⊥

  -- a read with a finding didn't return it
  pub found_is_not_given : (x : List ℕ) (j : Kind) (r : IsOfRead cases (on_key x P) j) (b : IsReadBy laws x P r.part r.place r.value) (k : Stamp) → b.txn.start.0 ≤ k.0 → k.0 ≤ b.committed.0.0 → IsQuiet b.txn x k
      → Gives P b.txn k r.place x r.value → ⊥
  found_is_not_given x j r b k begun ended quiet g =
      let seen = subst (λ Q. IsSight (on_key x P) Q r.place r.value r.sight) b.is r.seen in
      let none = given_is_unjudged laws P h b.txn b.committed.0 r.place x r.value (record { txn = b.at; committed = b.committed.1 }) b.found k begun ended quiet r.sight seen g in
      let judged : kind_of r.sight ≡ Some j = r.judged in
      cc

  -- a read has no finding exactly where it returned it
  pub read_clean : (T : Txn) (c : Stamp) (i : ℕ) (x : List ℕ) (v : Option Value) → Commits P T c → ReadsAt T i x v → (k : Stamp) → T.start.0 ≤ k.0 → k.0 ≤ c.0 → IsQuiet T x k
      → ((f : Finding) → IsFinding P f → IsOfReadAt T.id i f.kind → ⊥) ↔ Gives P T k i x v
  read_clean T c i x v t reads k begun ended quiet = (
    λ none. given none (kind_of s) refl,
    λ g f is at. elim is [ inl r ↦ same f.key f.kind r at g | inr p ↦ subst (IsOfReadAt T.id i) p.is at ],
  )
    where
      s : Sight
      s = sight_of (on_key x P) (part_on x T) i v

      read : IsRead (on_key x P) (part_on x T) i v
      read = read_at laws x P T c i v t.txn t.committed reads

      seen : IsSight (on_key x P) (part_on x T) i v s
      seen = (laws.sights (on_key x P) (part_on x T) i v s (laws.keys P x h) read.part).1 refl

      given : ((f : Finding) → IsFinding P f → IsOfReadAt T.id i f.kind → ⊥) → (o : Option Kind) → kind_of s ≡ o → Gives P T k i x v
      given none None e = unjudged_is_given laws P h T c i x v t reads k begun ended quiet s seen e
      given none (Some j) e = absurd (none (record { key = x; kind = j })
          (inl (record { part = part_on x T; place = i; value = v; sight = s; returned = read; seen = seen; judged = e }))
          (subst (λ u. IsOfReadAt u i j) seen.txn (subst (λ l. IsOfReadAt s.txn l j) seen.op (of_read s j e))))

      same : (y : List ℕ) (j : Kind) → IsOfRead cases (on_key y P) j → IsOfReadAt T.id i j → Gives P T k i x v → ⊥
      same y j r at g =
          let b = read_by laws y P r.part r.place r.value r.returned in
          let one = one_read j r.sight.txn T.id r.sight.op i (of_read r.sight j r.judged) at in
          let place : r.place ≡ i = sym r.seen.op ∙ one.1 in
          let id : b.txn.id ≡ T.id = ap (λ (Q : Part). Q.id) (sym b.is) ∙ sym r.seen.txn ∙ one.0 in
          let txn : b.txn ≡ T = same_txn laws P h b.txn T b.at t.txn id in
          let there : ReadsAt T i y r.value = subst (λ (A : Txn). ReadsAt A i y r.value) txn (subst (λ l. ReadsAt b.txn l y r.value) place b.found) in
          let ops : op.Read y r.value ≡ op.Read x v = same_some (sym there ∙ reads) in
          let key : y ≡ x = cc in
          let value : r.value ≡ v = cc in
          let seen1 : IsSight (on_key y P) (part_on y T) r.place r.value r.sight = subst (λ (A : Txn). IsSight (on_key y P) (part_on y A) r.place r.value r.sight) txn (subst (λ Q. IsSight (on_key y P) Q r.place r.value r.sight) b.is r.seen) in
          let seen2 : IsSight (on_key x P) (part_on x T) r.place r.value r.sight = subst (λ z. IsSight (on_key z P) (part_on z T) r.place r.value r.sight) key seen1 in
          let seen3 : IsSight (on_key x P) (part_on x T) i r.value r.sight = subst (λ l. IsSight (on_key x P) (part_on x T) l r.value r.sight) place seen2 in
          let seen4 : IsSight (on_key x P) (part_on x T) i v r.sight = subst (λ u. IsSight (on_key x P) (part_on x T) i u r.sight) value seen3 in
          let none = given_is_unjudged laws P h T c i x v t reads k begun ended quiet r.sight seen4 g in
          let judged : kind_of r.sight ≡ Some j = r.judged in
          cc

module _ (laws : ModelLaws) (P : Present) (h : IsHistory P) (ordered : IsInCommitOrder P) where
  -- ---- overlaps

  -- neighbouring versions don't overlap
  pub pair_is_none : (x : List ℕ) (k : Kind) → IsOfPair cases (on_key x P) k → ⊥
  pair_is_none x k p =
      let A = writer_of laws P h x p.first p.installs in
      let B = writer_of laws P h x p.second p.next.installs in
      let after : p.first.commit.0 < p.second.commit.0 = p.next.after in
      let late : p.second.start.0 < p.first.commit.0 = ltb-true p.second.start.0 p.first.commit.0 p.judged in
      let start : p.second.start.0 ≡ B.0.start.0 = ap (λ (k : Stamp). k.0) B.2 in
      between laws P h ordered B.0 A.0 p.second.commit p.first.commit x B.1.commits A.1 (omega (arith, late, start)) after

  pub none_overlaps : HasFinding P 8 → ⊥
  none_overlaps f = elim ((laws.findings P h).sound f.0 f.1) [
    | inl r ↦ no_overlap f.0.kind r.sight.txn r.sight.op (of_read r.sight f.0.kind r.judged) f.2
    | inr p ↦ pair_is_none f.0.key f.0.kind p
  ]

  -- ---- reads

  pub reads_clean : (T : Txn) (c : Stamp) (i : ℕ) (x : List ℕ) (v : Option Value) → Commits P T c → ReadsAt T i x v → ((f : Finding) → IsFinding P f → IsOfReadAt T.id i f.kind → ⊥) ↔ Gives P T c i x v
  reads_clean T c i x v t reads = read_clean laws P h T c i x v t reads c (h.forward T c t.txn (ap commit_of t.committed)) (omega arith) (λ U d u. between laws P h ordered T U c d x t u)

  pub serial_clean : (findings P ≡ []) ↔ IsSerial P
  serial_clean = (λ none T c i x v t reads. (reads_clean T c i x v t reads).0 (λ f is at. Contains-nil f (subst (λ l. Contains l f) none ((laws.findings P h).complete f is))), λ serial. go serial (findings P) refl)
    where
      dirty : IsSerial P → (f : Finding) → IsFinding P f → ⊥
      dirty serial f is = elim is [
        | inl r ↦ (
            let b = read_by laws f.key P r.part r.place r.value r.returned in
            let commits : Commits P b.txn b.committed.0 = record { txn = b.at; committed = b.committed.1 } in
            found_is_not_given laws P h f.key f.kind r b b.committed.0 (h.forward b.txn b.committed.0 b.at (ap commit_of b.committed.1)) (omega arith) (λ U d u. between laws P h ordered b.txn U b.committed.0 d f.key commits u)
            (serial b.txn b.committed.0 r.place f.key r.value commits b.found)
            )
        | inr p ↦ pair_is_none f.key f.kind p
      ]

      go : IsSerial P → (l : List Finding) → findings P ≡ l → findings P ≡ []
      go serial [] is = is
      go serial (f ∷ fs) is = absurd (dirty serial f ((laws.findings P h).sound f (subst (λ l. Contains l f) (sym is) (here f fs))))

  -- ---- reads of the future

  pub future_later : (x : List ℕ) (t : TxnId) (i : ℕ) (v : Option Value) (u : TxnId) → IsFinding P (record { key = x; kind = kind.Future t i v u }) → CommitsBefore P t u
  future_later x t i v u (inr p) = absurd (pair_is_none x (kind.Future t i v u) p)
  future_later x t i v u (inl r) = record {
    first = b.txn;
    second = W;
    commit = b.committed.0;
    later = f.commit;
    from = record { txn = b.at; id = ap (λ (Q : Part). Q.id) (sym b.is) ∙ sym r.seen.txn ∙ f.reader; committed = b.committed.1 };
    to = record { txn = at.1; id = ap (λ (Q : Part). Q.id) (sym at.2) ∙ sym from.3.id; committed = committed };
    before = elim (cases_order b.committed.0.0 f.commit.0) [
      | inl same ↦ absurd (apart (λ j. record { 0 = same j }))
      | inr rest ↦ elim rest [
        | inl before ↦ before
        | inr early ↦ absurd (between laws P h ordered b.txn W b.committed.0 f.commit x (record { txn = b.at; committed = b.committed.1 })
            (record { commits = record { txn = at.1; committed = committed }; place = wrote.0; value = from.0; writes = written }) (let after = f.after in omega (arith, after, start)) early)
      ]
    ];
  }
    where
      b : IsReadBy laws x P r.part r.place r.value
      b = read_by laws x P r.part r.place r.value r.returned

      f : IsFuture r.sight t u
      f = future_is r.sight t i v u r.judged

      start : r.sight.start.0 ≡ b.txn.start.0
      start = ap (λ (k : Stamp). k.0) (r.seen.start ∙ ap (λ (Q : Part). Q.start) b.is)

      from : IsSource (on_key x P) r.value (source.Installed u f.commit)
      from = subst (IsSource (on_key x P) r.value) f.from r.seen.from

      at : (U : Txn) × Contains P.txns U × (from.1 ≡ part_on x U)
      at = part_from laws x P.txns from.1 from.3.part

      W : Txn
      W = at.0

      committed : W.status ≡ status.Committed f.commit
      committed = ap (λ (Q : Part). Q.status) (sym at.2) ∙ from.4

      wrote : Writes (part_on x W) from.0
      wrote = subst (λ Q. Writes Q from.0) at.2 from.3.writes

      written : WritesPairAt W wrote.0 x from.0
      written = op_at laws x W.ops (record { place = wrote.0; access = access.Write from.0 }) wrote.1

      other : W.id ≢ b.txn.id
      other same = not_own laws P x r.part r.place r.value r.returned (sym r.seen.own ∙ f.own) (sym r.seen.later ∙ f.later) from.0 from.2
          (subst (λ Q. Writes Q from.0) (sym b.is) (subst (λ A. Writes (part_on x A) from.0) (same_txn laws P h W b.txn at.1 b.at same) wrote))

      apart : b.committed.0 ≢ f.commit
      apart same = (h.stamps W b.txn f.commit at.1 b.at other (ap commit_of committed) (wrote.0, x, from.0, written)).1 (ap commit_of b.committed.1 ∙ ap Some same)
