-- Of a well-formed history: the finding that each phenomenon has.
use Rattle.std.proofs.Common.{◌≡◌, ◌≢◌, ◌∙◌, ◌⊎◌, inl, inr, ℕ, ◌<◌, true, false, nat_lt, List, [], ◌∷◌, Option, Some, None, refl, sym, ap, ap₂, subst, arith}
use Rattle.std.proofs.lemmas.Bool.{lt-ltb, le-ltb}
use Rattle.std.specs.List.{Contains}
use Rattle.si_model.specs.declared.numbers.Stamp.{Stamp}
use Rattle.si_model.specs.declared.numbers.TxnId.{TxnId}
use Rattle.si_model.specs.declared.numbers.Value.{Value}
use Rattle.si_model.specs.declared.transactions.Status.{Status}
use Rattle.si_model.specs.declared.transactions.Status.TheVariants as status
use Rattle.si_model.specs.declared.parts.Part.{Part}
use Rattle.si_model.specs.declared.sights.Installer.{Installer}
use Rattle.si_model.specs.declared.sights.VersionId.{VersionId}
use Rattle.si_model.specs.declared.sights.VersionId.TheVariants as version
use Rattle.si_model.specs.declared.sights.Source.{Source}
use Rattle.si_model.specs.declared.sights.Source.TheVariants as source
use Rattle.si_model.specs.declared.kinds.Kind.{Kind}
use Rattle.si_model.specs.declared.kinds.Kind.TheVariants as kind
use Rattle.si_model.specs.declared.evidence.Label.{Label}
use Rattle.si_model.specs.declared.evidence.Label.TheVariants as label
use Rattle.si_model.specs.declared.evidence.Edge.{Edge}
use Rattle.si_model.specs.Parts.{Present, on_key}
use Rattle.si_model.specs.Versions.{Writes, IsInstaller, IsNext, commit_of}
use Rattle.si_model.specs.Reads.{IsRead, IsWriter, IsSource, IsMissedOf, own_value, writes_later, version_of, sight_of, judged_by_source, judged_by_own, kind_of}
use Rattle.si_model.specs.Order.{number}
use Rattle.si_model.specs.Findings.{cases, IsFoundOn}
use Rattle.si_model.specs.History.{IsHistory, IsOfHistory}
use Rattle.si_model.specs.Form.{IsWellFormed}
use Rattle.si_graph.specs.Edges.{IsEdge, IsDependency, IsStartDependency, IsWriteDependency, IsReadDependency, IsAntiDependency, Connects}
use Rattle.si_graph.specs.Walks.{IsWalk, IsClosed, AreDependencies, is_rw, is_rw_edge}
use Rattle.si_graph.specs.Phenomena.{HasAbortedRead, HasIntermediateRead, HasInterference, HasCircularFlow, HasMissedEffects}
use Rattle.si_graph.specs.Emptiness.{HasFinding, FindsAbortedRead, FindsIntermediateRead, FindsInterference, FindsMissedEffects}
use Rattle.si_graph.specs.Laws.{ModelLaws}
use Rattle.si_lists.proofs.Members.{same_some, here, there}
use Rattle.si_graph.proofs.StartEdges.{no_loop, starts_or_late, starts_back}
use Rattle.si_graph.proofs.ClosedWalks.{BegunAtRw, begun_at_rw, round, some_starts}
use Rattle.si_graph.proofs.Sights.{sight_with, plain_read}

module _ (laws : ModelLaws) (P : Present) (h : IsHistory P) (form : IsWellFormed P) where
  of_history : (x : List ℕ) → IsOfHistory (on_key x P)
  of_history x = laws.keys P x h

  found : (x : List ℕ) (k : Kind) → IsFoundOn cases (on_key x P) k → HasFinding P (number k)
  found x k is = (record { key = x; kind = k }, (laws.findings P h).complete (record { key = x; kind = k }) is, refl)

  -- ---- reads

  -- a read with neither an own value nor a later own write has the finding of its source
  found_read : (x : List ℕ) (T : Part) (i : ℕ) (v : Option Value) (s : Source) (n : Option Installer) (k : Kind) → IsRead (on_key x P) T i v → IsSource (on_key x P) v s → IsMissedOf (on_key x P) T.start (version_of s) n
      → (own_value T i ≡ None) × (writes_later T i v ≡ false) → judged_by_source (sight_with T i v s n) s ≡ Some k → HasFinding P (number k)
  unfolding kind_of
  found_read x T i v s n k read from missed plain is = found x k (inl (record {
    part = T;
    place = i;
    value = v;
    sight = sight_with T i v s n;
    returned = read;
    seen = record { txn = refl; op = refl; start = refl; read = refl; own = refl; later = refl; from = from; missed = missed };
    judged = ap₂ (judged_by_own (sight_with T i v s n)) plain.0 plain.1 ∙ is;
  }))

  -- a read of what another transaction wrote has neither
  plain_of_other : (x : List ℕ) (T : Part) (i : ℕ) (v : Option Value) (w : Value) (W : Part) → IsRead (on_key x P) T i v → v ≡ Some w → Contains (on_key x P).parts W → Writes W w → T ≢ W → (own_value T i ≡ None) × (writes_later T i v ≡ false)
  plain_of_other x T i v w W read is part writes other = plain_read laws P x T i v read h (form x) (λ u e own.
      other ((laws.differ (on_key x P) (of_history x)).writers T W w read.part part (subst (Writes T) (same_some (sym e ∙ is)) own) writes))

  pub aborted_found : HasAbortedRead P → FindsAbortedRead P
  aborted_found a =
      let x = a.0 in
      let T = a.1 in
      let W = a.3 in
      let r = a.4 in
      let committed = r.returned.committed in
      let plain = plain_of_other x T a.2 (Some r.value) r.value W r.returned refl r.writer r.writes (λ same. (let status = ap (λ (U : Part). U.status) same in let at = committed.1 in let aborted = r.aborted in cc)) in
      found_read x T a.2 (Some r.value) (source.Aborted W.id) None (kind.Aborted T.id a.2 (Some r.value) W.id) r.returned (r.value, W, refl, record { part = r.writer; id = refl; writes = r.writes }, r.aborted) refl plain refl

  pub intermediate_found : (FindsAbortedRead P → ⊥) → HasIntermediateRead P → FindsIntermediateRead P
  intermediate_found none a = go a.3.status refl
    where
      x : List ℕ
      x = a.0

      T : Part
      T = a.1

      W : Part
      W = a.3

      v : Value
      v = a.4.value

      plain : (own_value T a.2 ≡ None) × (writes_later T a.2 (Some v) ≡ false)
      plain = plain_of_other x T a.2 (Some v) v W a.4.returned refl a.4.writer a.4.writes (λ same. a.4.another (ap (λ (U : Part). U.id) (sym same)))

      go : (s : Status) → W.status ≡ s → FindsIntermediateRead P
      go (status.Committed c) is =
          found_read x T a.2 (Some v) (source.Earlier W.id) None (kind.Intermediate T.id a.2 (Some v) W.id) a.4.returned (v, W, refl, record { part = a.4.writer; id = refl; writes = a.4.writes }, (c, is), a.4.not_last) refl plain refl
      go status.Aborted is = absurd (none (aborted_found (x, T, a.2, W, record { value = v; returned = a.4.returned; writer = a.4.writer; writes = a.4.writes; aborted = is })))
      go status.InDoubt is = elim ((form x).written T a.2 (Some v) a.4.returned plain.0) [
        | inl initial ↦ absurd ((of_history x).initial v W (sym initial) a.4.writer a.4.writes)
        | inr w ↦ absurd (w.2.known (ap (λ (U : Part). U.status) ((laws.differ (on_key x P) (of_history x)).writers w.2.writer W v w.2.part a.4.writer (subst (Writes w.2.writer) (sym (same_some w.1)) w.2.writes) a.4.writes) ∙ is))
      ]

  -- ---- edges that aren't start edges

  -- a ww edge is a start edge, or an overlap
  write_edge : (a b : TxnId) → a ≢ b → IsWriteDependency P a b → IsStartDependency P a b ⊎ FindsInterference P
  write_edge a b differ d = elim (starts_or_late laws P d.key h A.0 B.0 d.first.commit d.second.commit A.1 B.1 A.2.committed B.2.committed A.2.writes.0 A.2.writes.1 (λ same. differ (sym from ∙ same ∙ to))) [
    | inl s ↦ inl (subst (λ u. IsStartDependency P u b) from (subst (IsStartDependency P A.0.id) to s))
    | inr late ↦ inr (inr (found d.key (kind.Overlap d.first.txn d.second.txn) (inr (record {
      first = d.first;
      second = d.second;
      installs = d.installs;
      next = d.next;
      judged = lt-ltb d.second.start.0 d.first.commit.0 (let start : d.second.start.0 ≡ B.0.start.0 = ap (λ (k : Stamp). k.0) B.2.start in omega (arith, late, start));
      is = refl;
    }))))
  ]
    where
      A : IsInstaller (on_key d.key P) d.first
      A = d.installs

      B : IsInstaller (on_key d.key P) d.second
      B = d.next.installs

      from : A.0.id ≡ a
      from = sym A.2.txn ∙ d.from

      to : B.0.id ≡ b
      to = sym B.2.txn ∙ d.to

  -- something is missed after the version that was read, or nothing
  missed_exists : (x : List ℕ) (T : Part) (i : ℕ) (v : Option Value) (s : Source) → IsRead (on_key x P) T i v → IsSource (on_key x P) v s → (n : Option Installer) × IsMissedOf (on_key x P) T.start (version_of s) n
  missed_exists x T i v s read from =
      let Q = on_key x P in
      let t = sight_of Q T i v in
      let is = (laws.sights Q T i v t (of_history x) read.part).1 refl in
      let same : t.source ≡ s = (laws.sources Q v t.source (of_history x)).0 is.from ∙ sym ((laws.sources Q v s (of_history x)).0 from) in
      (t.missed, subst (λ r. IsMissedOf Q T.start (version_of r) t.missed) same is.missed)

  -- a wr edge is a start edge, or a read of the future
  read_edge : (a b : TxnId) → a ≢ b → IsReadDependency P a b → IsStartDependency P a b ⊎ FindsInterference P
  read_edge a b differ d = elim (starts_or_late laws P d.key h W T d.commit d.read.committed.0 is.part d.read.part d.installed.4 d.read.committed.1 d.installed.0 is.writes (λ same. differ (is.id ∙ same ∙ d.to))) [
    | inl s ↦ inl (subst (λ u. IsStartDependency P u b) (sym is.id) (subst (IsStartDependency P W.id) d.to s))
    | inr late ↦ (
        let n = missed_exists d.key T d.place d.value (source.Installed a d.commit) d.read d.installed in
        let plain = plain_of_other d.key T d.place d.value d.installed.0 W d.read d.installed.2 is.part is.writes (λ same. differ (is.id ∙ ap (λ (U : Part). U.id) (sym same) ∙ d.to)) in
        let after : nat_lt T.start.0 d.commit.0 ≡ true = lt-ltb T.start.0 d.commit.0 late in
        inr (inl (found_read d.key T d.place d.value (source.Installed a d.commit) n.0 (kind.Future T.id d.place d.value a) d.read d.installed n.1 plain (rw after refl)))
        )
  ]
    where
      T : Part
      T = d.reader

      W : Part
      W = d.installed.1

      is : IsWriter (on_key d.key P) d.installed.0 a W
      is = d.installed.3

  -- so without interference each edge but an rw edge is a start edge
  pub edge_starts : (FindsInterference P → ⊥) → (e : Edge) → IsEdge P e → is_rw_edge e ≡ false → IsStartDependency P e.from e.to
  edge_starts none e is plain = go e.label plain is.connects
    where
      or_start : IsStartDependency P e.from e.to ⊎ FindsInterference P → IsStartDependency P e.from e.to
      or_start (inl s) = s
      or_start (inr f) = absurd (none f)

      go : (l : Label) → is_rw l ≡ false → Connects P l e.from e.to → IsStartDependency P e.from e.to
      go label.Ww f d = or_start (write_edge e.from e.to is.differ d)
      go label.Wr f d = or_start (read_edge e.from e.to is.differ d)
      go label.Rw f d = cc
      go label.St f d = d

  pub interference_found : HasInterference P → FindsInterference P
  interference_found i = go i.0.label i.2 i.1.connects
    where
      e : Edge
      e = i.0

      or_found : IsStartDependency P e.from e.to ⊎ FindsInterference P → FindsInterference P
      or_found (inl s) = absurd (i.3 (record { differ = i.1.differ; connects = s }))
      or_found (inr f) = f

      go : (l : Label) → IsDependency l → Connects P l e.from e.to → FindsInterference P
      go label.Ww is d = or_found (write_edge e.from e.to i.1.differ d)
      go label.Wr is d = or_found (read_edge e.from e.to i.1.differ d)
      go label.Rw is d = absurd is
      go label.St is d = absurd is

  -- ---- cycles

  pub no_circular_flow : (FindsInterference P → ⊥) → HasCircularFlow P → ⊥
  no_circular_flow none c = go c.0 c.1.walk.edges c.2 (round c.0 c.1.walk.closed) c.1.walk.closed
    where
      plain : (l : Label) → IsDependency l → is_rw l ≡ false
      plain label.Ww is = refl
      plain label.Wr is = refl
      plain label.Rw is = absurd is
      plain label.St is = absurd is

      go : (es : List Edge) → ((e : Edge) → Contains es e → IsEdge P e) → AreDependencies es → (a : TxnId) × IsWalk a es a → IsClosed es → ⊥
      go [] edges deps w closed = closed
      go (e ∷ es) edges deps w closed = no_loop P h w.0 (some_starts P h e es w.0 w.0 (λ f c. edge_starts none f (edges f c) (plain f.label (deps f c))) w.1)

  -- an rw edge to a transaction that committed before the reader started is a stale read
  pub stale_found : (a b : TxnId) → IsAntiDependency P a b → IsStartDependency P b a → FindsMissedEffects P
  stale_found a b d s = by d.returned.0 d.returned.1 d.returned.2
    where
      x : List ℕ
      x = d.key

      T : Part
      T = d.reader

      n : Installer
      n = d.second

      N : IsInstaller (on_key x P) n
      N = d.next.installs

      before : n.commit.0 < T.start.0
      before = starts_back laws P x h N.0 T n.commit d.read.committed.0 N.1 d.read.part N.2.committed d.read.committed.1
          (subst (λ u. IsStartDependency P u T.id) (sym d.to ∙ N.2.txn) (subst (IsStartDependency P b) (sym d.from) s))

      next : (c : VersionId) → Some c ≡ Some d.version → IsNext (on_key x P) c n
      next c e = subst (λ k. IsNext (on_key x P) k n) (sym (same_some e)) d.next

      by : (r : Source) → IsSource (on_key x P) d.value r → version_of r ≡ Some d.version → FindsMissedEffects P
      by source.Initial from is = found_read x T d.place d.value source.Initial (Some n) (kind.Stale T.id d.place d.value n.txn) d.read from (next version.Initial is, before)
          (plain_read laws P x T d.place d.value d.read h (form x) (λ w e own. (of_history x).initial w T (sym from ∙ e) d.read.part own)) refl
      by (source.Installed u c) from is =
          let W = from.1 in
          let after : c.0 < n.commit.0 = (next (version.Installed c) is).after in
          let forward = (of_history x).forward T d.read.committed.0 d.read.part (ap commit_of d.read.committed.1) in
          let other : T ≢ W = λ same.
          (let commit : c.0 ≡ d.read.committed.0.0 = ap (λ (k : Stamp). k.0) (same_some (ap commit_of (sym from.4 ∙ ap (λ (U : Part). U.status) (sym same) ∙ d.read.committed.1))) in
          omega (arith, after, before, forward, commit)) in
          let past : nat_lt T.start.0 c.0 ≡ false = le-ltb T.start.0 c.0 (omega (arith, after, before)) in
          found_read x T d.place d.value (source.Installed u c) (Some n) (kind.Stale T.id d.place d.value n.txn) d.read from (next (version.Installed c) is, before)
          (plain_of_other x T d.place d.value from.0 W d.read from.2 from.3.part from.3.writes other) (rw past refl)
      by source.Missing from is = cc
      by (source.InDoubt u) from is = cc
      by (source.Aborted u) from is = cc
      by (source.Earlier u) from is = cc

  pub missed_found : (FindsInterference P → ⊥) → HasMissedEffects P → FindsMissedEffects P
  missed_found none m = by r.rest (λ e c. edge_starts none e (edge e (there r.rw r.rest e c)) (r.others e c)) r.walk
    where
      r : BegunAtRw m.0
      r = begun_at_rw m.0 m.1.walk.closed m.2

      edge : (e : Edge) → Contains (r.rw ∷ r.rest) e → IsEdge P e
      edge e c = m.1.walk.edges e (r.within e c)

      the_rw : IsEdge P r.rw
      the_rw = edge r.rw (here r.rw r.rest)

      rw_is : (l : Label) (a b : TxnId) → is_rw l ≡ true → Connects P l a b → IsAntiDependency P a b
      rw_is label.Rw a b f d = d
      rw_is _ a b f d = cc

      by : (es : List Edge) → ((e : Edge) → Contains es e → IsStartDependency P e.from e.to) → IsWalk r.rw.to es r.rw.from → FindsMissedEffects P
      by [] all walk = absurd (the_rw.differ (sym walk))
      by (e ∷ es) all walk = stale_found r.rw.from r.rw.to (rw_is r.rw.label r.rw.from r.rw.to r.test the_rw.connects) (some_starts P h e es r.rw.to r.rw.from all walk)
