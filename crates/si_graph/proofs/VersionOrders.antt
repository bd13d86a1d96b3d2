-- A history that is PL-SI by some version order is so by that of the commit stamps, and has no other.
use Rattle.std.proofs.Common.{◌≡◌, ◌≢◌, ◌∙◌, ◌⊎◌, ◌↔◌, inl, inr, ℕ, ◌<◌, ◌≤◌, zero, suc, Bool, true, false, nat_lt, List, [], ◌∷◌, Option, Some, None, refl, sym, ap, subst, arith}
use Rattle.std.specs.Prelude.{⊤}
use Rattle.std.specs.List.{Contains}
use Rattle.std.proofs.lemmas.Bool.{cases_order, ltb-true, lt-ltb}
use Rattle.si_model.specs.declared.numbers.Stamp.{Stamp}
use Rattle.si_model.specs.declared.numbers.Value.{Value}
use Rattle.si_model.specs.declared.numbers.TxnId.{TxnId}
use Rattle.si_model.specs.declared.parts.Part.{Part}
use Rattle.si_model.specs.declared.transactions.Txn.{Txn}
use Rattle.si_model.specs.declared.sights.Installer.{Installer}
use Rattle.si_model.specs.declared.sights.VersionId.{VersionId}
use Rattle.si_model.specs.declared.sights.VersionId.TheVariants as version
use Rattle.si_model.specs.declared.sights.Source.{Source}
use Rattle.si_model.specs.declared.sights.Source.TheVariants as source
use Rattle.si_model.specs.declared.evidence.Label.{Label}
use Rattle.si_model.specs.declared.evidence.Label.TheVariants as label
use Rattle.si_model.specs.declared.evidence.Edge.{Edge}
use Rattle.si_model.specs.Parts.{Present, on_key}
use Rattle.si_model.specs.Versions.{Installs, IsInstaller, IsAfter, IsNext, commit_of, install}
use Rattle.si_model.specs.Reads.{IsSource, ReturnsVersion, version_of}
use Rattle.si_model.specs.History.{IsHistory}
use Rattle.si_graph.specs.Edges.{Connects, IsEdge, IsStartDependency}
use Rattle.si_graph.specs.Walks.{IsCycle}
use Rattle.si_graph.specs.Phenomena.{IsPlSi}
use Rattle.si_graph.specs.VersionOrders.{VersionOrder, ComesBefore, OrdersVersions, FollowsBy, IsNextBy, ConnectsBy, IsEdgeBy, IsCycleBy, IsPlSiBy, IsByCommits}
use Rattle.si_graph.specs.Laws.{ModelLaws}
use Rattle.si_lists.proofs.Members.{Contains-nil, Contains-cons_cases, here, there, same_some}
use Rattle.si_graph.proofs.OnKeys.{installer_in, installs_by}
use Rattle.si_graph.proofs.EdgesDecided.{installed_from}
use Rattle.si_graph.proofs.StartEdges.{same_node, node_of_installer}
use Rattle.si_graph.proofs.SerialReads.{same_commit, writer_of}

module _ (laws : ModelLaws) (P : Present) (h : IsHistory P) where
  -- who installs a version starts before its commit
  begun : (x : List ℕ) (n : Installer) → IsInstaller (on_key x P) n → n.start.0 < n.commit.0
  begun x n is =
      let U = writer_of laws P h x n is in
      let start : n.start.0 ≡ U.0.start.0 = ap (λ (s : Stamp). s.0) U.2 in
      let before = h.apart U.0 n.commit U.1.commits.txn (ap commit_of U.1.commits.committed) (U.1.place, x, U.1.value, U.1.writes) in
      omega (arith, start, before)

  -- a transaction has one commit
  one_commit : (x : List ℕ) (m n : Installer) → IsInstaller (on_key x P) m → IsInstaller (on_key x P) n → m.txn ≡ n.txn → m.commit ≡ n.commit
  one_commit x m n i j same =
      let A = writer_of laws P h x m i in
      let B = writer_of laws P h x n j in
      let stamps = same_commit laws P h A.0 B.0 m.commit n.commit A.1.commits B.1.commits (sym A.3 ∙ same ∙ B.3) in
      λ k. record { 0 = stamps k }

  -- ---- the graph by an order that is that of the commits

  module _ (o : VersionOrder) (by : IsByCommits P o) where
    -- the initial version, or one that was installed
    abbrev IsVersion : List ℕ → VersionId → Type 0
    IsVersion x version.Initial = ⊤
    IsVersion x (version.Installed c) = (m : Installer) × IsInstaller (on_key x P) m × (m.commit ≡ c)

    after_same : (x : List ℕ) (a : VersionId) → IsVersion x a → (n : Installer) → IsInstaller (on_key x P) n → FollowsBy o x a n ↔ IsAfter a n.commit
    after_same x version.Initial v n i = (λ f. tt, λ f. tt)
    after_same x (version.Installed c) v n i = subst (λ (k : Stamp). (o x k n.commit ≡ true) ↔ (k.0 < n.commit.0)) v.2 (by x v.0 n v.1 i)

    next_same : (x : List ℕ) (a : VersionId) (n : Installer) → IsVersion x a → IsNextBy P o x a n ↔ IsNext (on_key x P) a n
    next_same x a n v = (
      λ next. record {
        installs = next.installs;
        after = (after_same x a v n next.installs).0 next.after;
        first = λ m i after. (let not : (m.commit.0 < n.commit.0 → ⊥) = λ less. next.first m i ((after_same x a v m i).1 after) ((by x m n i next.installs).1 less) in omega (arith, not));
      },
      λ next. record {
        installs = next.installs;
        after = (after_same x a v n next.installs).1 next.after;
        first = λ m i after between. (let late = next.first m i ((after_same x a v m i).0 after) in let early = (by x m n i next.installs).0 between in omega (arith, late, early));
      },
    )

    -- what a read returned is the initial version, or one that was installed
    returned_is : (x : List ℕ) (v : Option Value) (a : VersionId) → ReturnsVersion (on_key x P) v a → IsVersion x a
    returned_is x v a r = go r.0 r.1 r.2
      where
        go : (s : Source) → IsSource (on_key x P) v s → version_of s ≡ Some a → IsVersion x a
        go source.Initial is e = subst (IsVersion x) (same_some e) tt
        go (source.Installed u c) is e =
            let f = installed_from laws P h x u c v is in
            let n : Installer = record { txn = f.1.id; start = f.1.start; commit = c } in
            subst (IsVersion x) (same_some e) (n, installer_in laws x P f.1 n f.3 (installs_by laws x f.1 c f.0 f.5 f.6), refl)
        go source.Missing is e = cc
        go (source.InDoubt u) is e = cc
        go (source.Aborted u) is e = cc
        go (source.Earlier u) is e = cc

    connects_same : (l : Label) (a b : TxnId) → ConnectsBy P o l a b ↔ Connects P l a b
    connects_same label.Ww a b = (
      λ d. record {
        key = d.key;
        first = d.first;
        second = d.second;
        installs = d.installs;
        next = (next_same d.key (version.Installed d.first.commit) d.second (d.first, d.installs, refl)).0 d.next;
        from = d.from;
        to = d.to;
      },
      λ d. record {
        key = d.key;
        first = d.first;
        second = d.second;
        installs = d.installs;
        next = (next_same d.key (version.Installed d.first.commit) d.second (d.first, d.installs, refl)).1 d.next;
        from = d.from;
        to = d.to;
      },
    )
    connects_same label.Wr a b = (λ d. d, λ d. d)
    connects_same label.Rw a b = (
      λ d. record {
        key = d.key;
        reader = d.reader;
        place = d.place;
        value = d.value;
        version = d.version;
        second = d.second;
        read = d.read;
        returned = d.returned;
        next = (next_same d.key d.version d.second (returned_is d.key d.value d.version d.returned)).0 d.next;
        from = d.from;
        to = d.to;
      },
      λ d. record {
        key = d.key;
        reader = d.reader;
        place = d.place;
        value = d.value;
        version = d.version;
        second = d.second;
        read = d.read;
        returned = d.returned;
        next = (next_same d.key d.version d.second (returned_is d.key d.value d.version d.returned)).1 d.next;
        from = d.from;
        to = d.to;
      },
    )
    connects_same label.St a b = (λ d. d, λ d. d)

    edge_same : (e : Edge) → IsEdgeBy P o e ↔ IsEdge P e
    edge_same e = (
      λ is. record { differ = is.differ; connects = (connects_same e.label e.from e.to).0 is.connects },
      λ is. record { differ = is.differ; connects = (connects_same e.label e.from e.to).1 is.connects },
    )

    cycle_same : (es : List Edge) → IsCycleBy P o es ↔ IsCycle P es
    cycle_same es = (
      λ c. record { walk = record { edges = λ e in_es. (edge_same e).0 (c.edges e in_es); closed = c.closed }; once = c.once },
      λ c. record { edges = λ e in_es. (edge_same e).1 (c.walk.edges e in_es); closed = c.walk.closed; once = c.once },
    )

    pub pl_si_same : IsPlSiBy P o ↔ IsPlSi P
    pl_si_same = (
      λ si. record {
        aborted_reads = si.aborted_reads;
        intermediate_reads = si.intermediate_reads;
        circular_flow = λ f. si.circular_flow f.0 ((cycle_same f.0).1 f.1) f.2;
        interference = λ f. si.interference f.0 ((edge_same f.0).1 f.1) f.2 (λ st. f.3 ((edge_same (record f.0 { label = label.St })).0 st));
        missed_effects = λ f. si.missed_effects f.0 ((cycle_same f.0).1 f.1) f.2;
      },
      λ si. record {
        aborted_reads = si.aborted_reads;
        intermediate_reads = si.intermediate_reads;
        circular_flow = λ es c flows. si.circular_flow (es, (cycle_same es).0 c, flows);
        interference = λ e is depends none. si.interference (e, (edge_same e).0 is, depends, λ st. none ((edge_same (record e { label = label.St })).1 st));
        missed_effects = λ es c one. si.missed_effects (es, (cycle_same es).0 c, one);
      },
    )

  -- ---- an order by which the history is PL-SI

  module _ (o : VersionOrder) (orders : OrdersVersions P o) where
    -- p's version is m's or behind it and before n's, and none of these transactions has one between
    record IsLast (x : List ℕ) (m n : Installer) (ts : List Part) (p : Installer) : Type 0 where
      installs : IsInstaller (on_key x P) p
      before : ComesBefore o x p n
      from : (m.commit ≡ p.commit) ⊎ ComesBefore o x m p
      last : (T : Part) (q : Installer) → Contains ts T → Installs T q → ComesBefore o x q n → ComesBefore o x p q → ⊥

    module _ (x : List ℕ) (m n : Installer) (i : IsInstaller (on_key x P) m) (before : ComesBefore o x m n) where
      last_of : (ts : List Part) → ((T : Part) → Contains ts T → Contains (on_key x P).parts T) → (p : Installer) × IsLast x m n ts p
      last_of [] within = (m, record { installs = i; before = before; from = inl refl; last = λ T q c. absurd (Contains-nil T c) })
      last_of (T ∷ ts) within = step (last_of ts (λ U c. within U (there T ts U c))) (install T) refl
        where
          keep : (r : (p : Installer) × IsLast x m n ts p) → ((q : Installer) → Installs T q → ComesBefore o x q n → ComesBefore o x r.0 q → ⊥) → (p : Installer) × IsLast x m n (T ∷ ts) p
          keep r never = (
            r.0,
            record {
              installs = r.1.installs;
              before = r.1.before;
              from = r.1.from;
              last = λ U q c is near far. elim (Contains-cons_cases T ts U c) [ inl same ↦ never q (subst (λ V. Installs V q) (sym same) is) near far | inr more ↦ r.1.last U q more is near far ];
            },
          )

          one : (q k : Installer) → install T ≡ Some q → Installs T k → q ≡ k
          one q k e is = same_some (sym e ∙ (laws.installs T k).1 is)

          by : (r : (p : Installer) × IsLast x m n ts p) (q : Installer) → install T ≡ Some q → (b c : Bool) → o x q.commit n.commit ≡ b → o x r.0.commit q.commit ≡ c → (p : Installer) × IsLast x m n (T ∷ ts) p
          by r q e false c near far = keep r (λ k is near_k far_k. (let f : true ≡ false = sym near_k ∙ ap (λ l. o x l.commit n.commit) (sym (one q k e is)) ∙ near in cc))
          by r q e true false near far = keep r (λ k is near_k far_k. (let f : true ≡ false = sym far_k ∙ ap (λ l. o x r.0.commit l.commit) (sym (one q k e is)) ∙ far in cc))
          by r q e true true near far =
              let q_in : IsInstaller (on_key x P) q = (T, within T (here T ts), (laws.installs T q).0 e) in (
                q,
                record {
                  installs = q_in;
                  before = near;
                  from = elim r.1.from [ inl same ↦ inr (subst (λ l. o x l q.commit ≡ true) (sym same) far) | inr earlier ↦ inr (orders.transitive x m r.0 q i r.1.installs q_in earlier far) ];
                  last = λ U k c is near_k far_k. elim (Contains-cons_cases T ts U c) [
                    | inl same ↦ (let itself : ComesBefore o x q q = subst (λ l. o x q.commit l.commit ≡ true) (sym (one q k e (subst (λ V. Installs V k) (sym same) is))) far_k in orders.one_way x q q q_in q_in itself itself)
                    | inr more ↦ r.1.last U k more is near_k (orders.transitive x r.0 q k r.1.installs q_in (U, within U (there T ts U more), is) far far_k)
                  ];
                },
              )

          step : (p : Installer) × IsLast x m n ts p → (found : Option Installer) → install T ≡ found → (p : Installer) × IsLast x m n (T ∷ ts) p
          step r None e = keep r (λ k is near far. (let f = sym e ∙ (laws.installs T k).1 is in cc))
          step r (Some q) e = by r q e (o x q.commit n.commit) (o x r.0.commit q.commit) refl refl

    module _ (si : IsPlSiBy P o) where
      -- neighbours are apart, since a ww edge needs a start edge
      apart : (x : List ℕ) (m n : Installer) → IsInstaller (on_key x P) m → IsNextBy P o x (version.Installed m.commit) n → m.commit.0 < n.start.0
      apart x m n i next = elim (cases_order m.commit.0 n.start.0) [
        | inl same ↦ absurd (clash (omega (arith, same)))
        | inr rest ↦ elim rest [ inl behind ↦ behind | inr late ↦ absurd (clash (omega (arith, late))) ]
      ]
        where
          differ : m.txn ≢ n.txn
          differ same =
              let stamp = one_commit x m n i next.installs same in
              let itself : o x m.commit m.commit ≡ true = subst (λ k. o x m.commit k ≡ true) (sym stamp) next.after in
              orders.one_way x m m i i itself itself

          edge : Edge
          edge = record { from = m.txn; to = n.txn; label = label.Ww }

          is : IsEdgeBy P o edge
          is = record { differ = differ; connects = record { key = x; first = m; second = n; installs = i; next = next; from = refl; to = refl } }

          not_before : n.start.0 ≤ m.commit.0 → IsStartDependency P m.txn n.txn → ⊥
          not_before late s =
              let X = node_of_installer laws P x m i in
              let Y = node_of_installer laws P x n next.installs in
              let commit : s.commit.0 ≡ m.commit.0 = ap (λ (k : Stamp). k.0) (same_node P h m.txn s.first X.0 s.commit m.commit s.from X.1).1 in
              let second : s.second.start.0 ≡ Y.0.start.0 = ap (λ (T : Txn). T.start.0) (same_node P h n.txn s.second Y.0 s.later n.commit s.to Y.1).0 in
              let start : n.start.0 ≡ Y.0.start.0 = ap (λ (k : Stamp). k.0) Y.2 in
              omega (arith, s.timed, commit, second, start, late)

          clash : n.start.0 ≤ m.commit.0 → ⊥
          clash late = si.interference edge is tt (λ st. not_before late st.connects)

      -- the version right before n's, which is committed before n's
      last_before : (x : List ℕ) (m n : Installer) → IsInstaller (on_key x P) m → IsInstaller (on_key x P) n → ComesBefore o x m n
          → (p : Installer) × IsInstaller (on_key x P) p × ((m.commit ≡ p.commit) ⊎ ComesBefore o x m p) × (p.commit.0 < n.commit.0)
      last_before x m n i j before =
          let p = last_of x m n i before (on_key x P).parts (λ T c. c) in
          let near = apart x p.0 n p.1.installs (record { installs = j; after = p.1.before; first = λ k k_in after between. p.1.last k_in.0 k k_in.1 k_in.2 between after }) in
          let own = begun x n j in
          (p.0, p.1.installs, p.1.from, omega (arith, near, own))

      -- so from version to version the commits rise
      rises : (fuel : ℕ) (x : List ℕ) (m n : Installer) → IsInstaller (on_key x P) m → IsInstaller (on_key x P) n → ComesBefore o x m n → n.commit.0 ≤ fuel → m.commit.0 < n.commit.0
      rises zero x m n i j before within = (let p = last_before x m n i j before in let less = p.3 in absurd (omega (arith, less, within)))
      rises (suc fuel) x m n i j before within =
          let p = last_before x m n i j before in
          let less = p.3 in
          elim p.2 [
            | inl same ↦ (let stamp : m.commit.0 ≡ p.0.commit.0 = ap (λ (k : Stamp). k.0) same in omega (arith, stamp, less))
            | inr earlier ↦ (let sooner = rises fuel x m p.0 i p.1 earlier (omega (arith, less, within)) in omega (arith, sooner, less))
          ]

      pub by_commits : IsByCommits P o
      by_commits x m n i j = (
        λ before. rises n.commit.0 x m n i j before (omega arith),
        λ less. elim (orders.total x m n i j (λ same. (let stamp : m.commit.0 ≡ n.commit.0 = ap (λ (k : Stamp). k.0) same in omega (arith, less, stamp)))) [
          | inl is ↦ is
          | inr back ↦ (let more = rises m.commit.0 x n m j i back (omega arith) in absurd (omega (arith, less, more)))
        ],
      )

  -- ---- the order of the commits

  abbrev commit_order : VersionOrder
  commit_order x a b = nat_lt a.0 b.0

  agrees : IsByCommits P commit_order
  agrees x a b i j = (λ e. ltb-true a.commit.0 b.commit.0 e, λ less. lt-ltb a.commit.0 b.commit.0 less)

  ordered : OrdersVersions P commit_order
  ordered = record {
    one_way = λ x a b i j before behind. (let less = (agrees x a b i j).0 before in let more = (agrees x b a j i).0 behind in omega (arith, less, more));
    transitive = λ x a b c i j k before behind. (agrees x a c i k).1 (let less = (agrees x a b i j).0 before in let more = (agrees x b c j k).0 behind in omega (arith, less, more));
    total = λ x a b i j differ. elim (cases_order a.commit.0 b.commit.0) [
      | inl same ↦ absurd (differ (λ k. record { 0 = same k }))
      | inr rest ↦ elim rest [ inl less ↦ inl ((agrees x a b i j).1 less) | inr more ↦ inr ((agrees x b a j i).1 more) ]
    ];
  }

  pub any_order : ((o : VersionOrder) × OrdersVersions P o × IsPlSiBy P o) ↔ IsPlSi P
  any_order = (
    λ f. (pl_si_same f.0 (by_commits f.0 f.1 f.2)).0 f.2,
    λ si. (commit_order, ordered, (pl_si_same commit_order agrees).1 si),
  )
