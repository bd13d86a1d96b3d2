-- Of any history: its findings against snapshots at the starts, and overlaps against writers that are apart.
use Rattle.std.proofs.Common.{◌≡◌, ◌≢◌, ◌∙◌, inl, inr, ℕ, ◌+◌, ◌<◌, ◌≤◌, zero, suc, List, [], ◌∷◌, Option, Some, None, refl, sym, ap, subst, arith}
use Rattle.std.specs.Prelude.{◌↔◌, ◌⊎◌}
use Rattle.std.specs.List.{Contains}
use Rattle.std.proofs.lemmas.Bool.{cases_order, ltb-true, lt-ltb}
use Rattle.si_model.specs.declared.numbers.Stamp.{Stamp}
use Rattle.si_model.specs.declared.numbers.Value.{Value}
use Rattle.si_model.specs.declared.numbers.TxnId.{TxnId}
use Rattle.si_model.specs.declared.parts.Part.{Part}
use Rattle.si_model.specs.declared.transactions.Txn.{Txn}
use Rattle.si_model.specs.declared.sights.Installer.{Installer}
use Rattle.si_model.specs.declared.sights.VersionId.TheVariants as version
use Rattle.si_model.specs.declared.kinds.Kind.{Kind}
use Rattle.si_model.specs.declared.kinds.Kind.TheVariants as kind
use Rattle.si_model.specs.declared.findings.Finding.{Finding}
use Rattle.si_model.specs.Parts.{Present, on_key}
use Rattle.si_model.specs.Versions.{IsInstaller, IsNext, IsNextIfAny, commit_of, next_after}
use Rattle.si_model.specs.Findings.{cases, IsOfPair, IsOfRead, IsFinding, findings}
use Rattle.si_model.specs.History.{WritesSome, IsHistory}
use Rattle.si_model.specs.Form.{IsWellFormed}
use Rattle.si_graph.specs.Phenomena.{IsPlSi}
use Rattle.si_graph.specs.Laws.{ModelLaws}
use Rattle.si_graph.specs.Emptiness.{HasFinding}
use Rattle.si_graph.specs.Serial.{ReadsAt, Commits, CommitsWrite, Gives}
use Rattle.si_graph.specs.SerialLaws.{IsOfReadAt}
use Rattle.si_graph.specs.SnapshotLaws.{TellsRead, TellsWriters}
use Rattle.si_graph.specs.Snapshots.{IsSnapshot, ReadSnapshots, WriteApart}
use Rattle.si_lists.proofs.Members.{Contains-nil, here}
use Rattle.si_graph.proofs.OnKeys.{read_by}
use Rattle.si_graph.proofs.Emptiness.{empty_both}
use Rattle.si_graph.proofs.SerialReads.{same_txn, same_commit, installer_of, writer_of}
use Rattle.si_graph.proofs.SerialFindings.{IsQuiet, of_read, no_overlap, found_is_not_given, read_clean}

module _ (laws : ModelLaws) (P : Present) (h : IsHistory P) where
  -- ---- reads: the start is a stamp from the start to the commit, and nothing is committed from it to itself

  quiet_at_start : (T : Txn) (x : List ℕ) → IsQuiet laws P h T x T.start
  quiet_at_start T x U d u from to = omega (arith, from, to)

  pub snapshot_read_clean : (T : Txn) (c : Stamp) (i : ℕ) (x : List ℕ) (v : Option Value) → Commits P T c → ReadsAt T i x v → ((f : Finding) → IsFinding P f → IsOfReadAt T.id i f.kind → ⊥) ↔ Gives P T T.start i x v
  snapshot_read_clean T c i x v t reads = read_clean laws P h T c i x v t reads T.start (omega arith) (h.forward T c t.txn (ap commit_of t.committed)) (quiet_at_start T x)

  -- ---- overlaps

  -- neighbouring versions of writers that are apart don't overlap
  apart_pair : WriteApart P → (x : List ℕ) (k : Kind) → IsOfPair cases (on_key x P) k → ⊥
  apart_pair apart x k p =
      let A = writer_of laws P h x p.first p.installs in
      let B = writer_of laws P h x p.second p.next.installs in
      let after : p.first.commit.0 < p.second.commit.0 = p.next.after in
      let late : p.second.start.0 < p.first.commit.0 = ltb-true p.second.start.0 p.first.commit.0 p.judged in
      let start : p.second.start.0 ≡ B.0.start.0 = ap (λ (s : Stamp). s.0) B.2 in
      let forward : A.0.start.0 ≤ p.first.commit.0 = h.forward A.0 p.first.commit A.1.commits.txn (ap commit_of A.1.commits.committed) in
      let differ : A.0.id ≢ B.0.id = λ same. (let one = same_commit laws P h A.0 B.0 p.first.commit p.second.commit A.1.commits B.1.commits same in omega (arith, after, one)) in
      elim (apart A.0 B.0 p.first.commit p.second.commit x A.1 B.1 differ) [ inl before ↦ omega (arith, before, late, start) | inr behind ↦ omega (arith, behind, after, forward) ]

  writes_some : (T : Txn) (c : Stamp) (x : List ℕ) → CommitsWrite P T c x → WritesSome T
  writes_some T c x t = (t.place, x, t.value, t.writes)

  module _ (none : HasFinding P 8 → ⊥) where
    no_pair : (x : List ℕ) (m n : Installer) → IsInstaller (on_key x P) m → IsNext (on_key x P) (version.Installed m.commit) n → n.start.0 < m.commit.0 → ⊥
    no_pair x m n is next late =
        let f : Finding = record { key = x; kind = kind.Overlap m.txn n.txn } in
        none (f, (laws.findings P h).complete f (inr (record { first = m; second = n; installs = is; next = next; judged = lt-ltb n.start.0 m.commit.0 late; is = refl })), refl)

    -- from a version to a later one, version by version: the later one's writer doesn't start before the version is committed
    not_begun : (fuel : ℕ) (x : List ℕ) (m : Installer) (U : Txn) (d : Stamp) → IsInstaller (on_key x P) m → CommitsWrite P U d x → m.commit.0 < d.0 → d.0 ≤ m.commit.0 + fuel → U.start.0 < m.commit.0 → ⊥
    not_begun zero x m U d is u before near late = omega (arith, before, near)
    not_begun (suc fuel) x m U d is u before near late =
        go (λ n is. not_begun fuel x n U d is u) (next_after (on_key x P).parts (version.Installed m.commit))
        ((laws.next (on_key x P) (version.Installed m.commit) (next_after (on_key x P).parts (version.Installed m.commit)) (laws.keys P x h)).1 refl)
      where
        go : ((n : Installer) → IsInstaller (on_key x P) n → n.commit.0 < d.0 → d.0 ≤ n.commit.0 + fuel → U.start.0 < n.commit.0 → ⊥) → (o : Option Installer) → IsNextIfAny (on_key x P) (version.Installed m.commit) o → ⊥
        go further None last = last (record { txn = U.id; start = U.start; commit = d }) (installer_of laws P h x U d u) before
        go further (Some n) next = elim (cases_order n.commit.0 d.0) [
          | inl same ↦ (h.stamps N.0 U n.commit N.1.commits.txn u.commits.txn other (ap commit_of N.1.commits.committed) (writes_some N.0 n.commit x N.1)).1
              (ap commit_of u.commits.committed ∙ ap Some (λ j. record { 0 = sym same j }))
          | inr rest ↦ elim rest [
            | inl sooner ↦ further n next.installs sooner (omega (arith, near, after)) (omega (arith, late, after))
            | inr beyond ↦ omega (arith, first, beyond)
          ]
        ]
          where
            N : (V : Txn) × CommitsWrite P V n.commit x × (n.start ≡ V.start) × (n.txn ≡ V.id)
            N = writer_of laws P h x n next.installs

            after : m.commit.0 < n.commit.0
            after = next.after

            first : n.commit.0 ≤ d.0
            first = next.first (record { txn = U.id; start = U.start; commit = d }) (installer_of laws P h x U d u) before

            other : N.0.id ≢ U.id
            other same =
                let start : n.start.0 ≡ U.start.0 = ap (λ (s : Stamp). s.0) N.2 ∙ ap (λ (V : Txn). V.start.0) (same_txn laws P h N.0 U N.1.commits.txn u.commits.txn same) in
                no_pair x m n is next (omega (arith, start, late))

    begins_behind : (T U : Txn) (c d : Stamp) (x : List ℕ) → CommitsWrite P T c x → CommitsWrite P U d x → T.id ≢ U.id → c.0 < d.0 → c.0 < U.start.0
    begins_behind T U c d x t u differ before = elim (cases_order c.0 U.start.0) [
      | inl same ↦ absurd ((h.stamps T U c t.commits.txn u.commits.txn differ (ap commit_of t.commits.committed) (writes_some T c x t)).0 (λ j. record { 0 = same j }))
      | inr rest ↦ elim rest [
        | inl behind ↦ behind
        | inr late ↦ absurd (not_begun d.0 x (record { txn = T.id; start = T.start; commit = c }) U d (installer_of laws P h x T c t) u before (omega arith) late)
      ]
    ]

    apart_from : WriteApart P
    apart_from T U c d x t u differ = elim (cases_order c.0 d.0) [
      | inl same ↦ absurd ((h.stamps T U c t.commits.txn u.commits.txn differ (ap commit_of t.commits.committed) (writes_some T c x t)).1 (ap commit_of u.commits.committed ∙ ap Some (λ j. record { 0 = sym same j })))
      | inr rest ↦ elim rest [
        | inl before ↦ inl (begins_behind T U c d x t u differ before)
        | inr behind ↦ inr (begins_behind U T d c x u t (λ e. differ (sym e)) behind)
      ]
    ]

  pub apart_clean : (HasFinding P 8 → ⊥) ↔ WriteApart P
  apart_clean = (
    apart_from,
    λ apart f. elim ((laws.findings P h).sound f.0 f.1) [
      | inl r ↦ no_overlap f.0.kind r.sight.txn r.sight.op (of_read r.sight f.0.kind r.judged) f.2
      | inr p ↦ apart_pair apart f.0.key f.0.kind p
    ],
  )

  -- ---- both

  dirty : ReadSnapshots P → WriteApart P → (f : Finding) → IsFinding P f → ⊥
  dirty reads apart f is = elim is [
    | inl r ↦ (
        let b = read_by laws f.key P r.part r.place r.value r.returned in
        found_is_not_given laws P h f.key f.kind r b b.txn.start (omega arith) (h.forward b.txn b.committed.0 b.at (ap commit_of b.committed.1)) (quiet_at_start b.txn f.key)
        (reads b.txn b.committed.0 r.place f.key r.value (record { txn = b.at; committed = b.committed.1 }) b.found)
        )
    | inr p ↦ apart_pair apart f.key f.kind p
  ]

  pub snapshots_clean : (findings P ≡ []) ↔ IsSnapshot P
  snapshots_clean = (
    λ none. record {
      reads = λ T c i x v t reads. (snapshot_read_clean T c i x v t reads).0 (λ f is at. Contains-nil f (subst (λ l. Contains l f) none ((laws.findings P h).complete f is)));
      apart = apart_from (λ f. Contains-nil f.0 (subst (λ l. Contains l f.0) none f.1));
    },
    λ both. go both.reads both.apart (findings P) refl,
  )
    where
      go : ReadSnapshots P → WriteApart P → (l : List Finding) → findings P ≡ l → findings P ≡ []
      go reads apart [] is = is
      go reads apart (f ∷ fs) is = absurd (dirty reads apart f ((laws.findings P h).sound f (subst (λ l. Contains l f) (sym is) (here f fs))))

  pub snapshots_exact : IsSnapshot P ↔ (IsWellFormed P × IsPlSi P)
  snapshots_exact = let e = empty_both laws P h in (λ both. e.0 (snapshots_clean.1 both), λ si. snapshots_clean.0 (e.1 si))

  -- ---- what a finding tells

  tells_read : (f : Finding) → IsOfRead cases (on_key f.key P) f.kind → TellsRead P f
  tells_read f r =
      let b = read_by laws f.key P r.part r.place r.value r.returned in
      let id : r.sight.txn ≡ b.txn.id = r.seen.txn ∙ ap (λ (R : Part). R.id) b.is in
      record {
        txn = b.txn;
        commit = b.committed.0;
        place = r.place;
        value = r.value;
        commits = record { txn = b.at; committed = b.committed.1 };
        reads = b.found;
        told = subst (λ (u : TxnId). IsOfReadAt u r.place f.kind) id (subst (λ i. IsOfReadAt r.sight.txn i f.kind) r.seen.op (of_read r.sight f.kind r.judged));
        breaks = found_is_not_given laws P h f.key f.kind r b b.txn.start (omega arith) (h.forward b.txn b.committed.0 b.at (ap commit_of b.committed.1)) (quiet_at_start b.txn f.key);
      }

  tells_writers : (f : Finding) → IsOfPair cases (on_key f.key P) f.kind → TellsWriters P f
  tells_writers f p =
      let A = writer_of laws P h f.key p.first p.installs in
      let B = writer_of laws P h f.key p.second p.next.installs in
      let after : p.first.commit.0 < p.second.commit.0 = p.next.after in
      let late : p.second.start.0 < p.first.commit.0 = ltb-true p.second.start.0 p.first.commit.0 p.judged in
      let start : p.second.start.0 ≡ B.0.start.0 = ap (λ (s : Stamp). s.0) B.2 in
      record {
        first = A.0;
        second = B.0;
        commit = p.first.commit;
        later = p.second.commit;
        wrote = A.1;
        over = B.1;
        told = p.is ∙ ap (λ (t : TxnId). kind.Overlap t p.second.txn) A.3 ∙ ap (λ (t : TxnId). kind.Overlap A.0.id t) B.3;
        differ = λ same. (let one = same_commit laws P h A.0 B.0 p.first.commit p.second.commit A.1.commits B.1.commits same in omega (arith, after, one));
        inside = omega (arith, late, start);
        behind = after;
      }

  pub alarm_true : (f : Finding) → IsFinding P f → TellsRead P f ⊎ TellsWriters P f
  alarm_true f is = elim is [ inl r ↦ inl (tells_read f r) | inr p ↦ inr (tells_writers f p) ]
