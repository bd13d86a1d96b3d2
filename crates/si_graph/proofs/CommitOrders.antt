-- A clean history has a read across another's commit exactly where the same history in commit order isn't clean.
use Rattle.std.proofs.Common.{◌≡◌, ◌≢◌, ◌∙◌, inl, inr, ℕ, ◌+◌, ◌*◌, ◌<◌, ◌≤◌, List, [], ◌∷◌, map, slice_get, Option, Some, None, refl, sym, ap, subst, arith}
use Rattle.std.specs.Prelude.{◌↔◌}
use Rattle.std.specs.List.{Contains}
use Rattle.std.proofs.lemmas.Bool.{cases_order}
use Rattle.si_model.specs.declared.numbers.Stamp.{Stamp}
use Rattle.si_model.specs.declared.numbers.Value.{Value}
use Rattle.si_model.specs.declared.parts.Access.TheVariants as access
use Rattle.si_model.specs.declared.parts.Part.{Part}
use Rattle.si_model.specs.declared.transactions.Status.{Status}
use Rattle.si_model.specs.declared.transactions.Status.TheVariants as status
use Rattle.si_model.specs.declared.transactions.Txn.{Txn}
use Rattle.si_model.specs.declared.sights.Installer.{Installer}
use Rattle.si_model.specs.declared.sights.VersionId.{VersionId}
use Rattle.si_model.specs.declared.sights.VersionId.TheVariants as version
use Rattle.si_model.specs.declared.findings.Finding.{Finding}
use Rattle.si_model.specs.Parts.{Present, set_up_value, on_key}
use Rattle.si_model.specs.Versions.{IsAfter, IsNextIfAny, commit_of, next_after}
use Rattle.si_model.specs.Reads.{IsRead}
use Rattle.si_model.specs.Findings.{IsFinding, findings}
use Rattle.si_model.specs.History.{WritesPairAt, WritesSome, IsHistory}
use Rattle.si_model.specs.Chances.{WroteBefore, IsFree}
use Rattle.si_graph.specs.Laws.{ModelLaws}
use Rattle.si_graph.specs.EvidenceTests.{part_on}
use Rattle.si_graph.specs.Serial.{ReadsAt, Commits, CommitsWrite, IsInCommitOrder, IsLastBefore, IsLastWrite, IsLeft, Holds, Gives}
use Rattle.si_graph.specs.Unstamped.{IsSameOutcome, IsRestamped, HasOtherStamps}
use Rattle.si_graph.specs.CommitOrders.{IsCommitOf, KeepsCommitOrder, IsInCommitOrderOf, HasReadAcross}
use Rattle.si_lists.proofs.Members.{same_some, here, Contains-map, Contains-from_map}
use Rattle.si_lists.proofs.Names.{same_named, names_map}
use Rattle.si_model.proofs.LastWrites.{own_before}
use Rattle.si_model.proofs.Histories.{set_up_is}
use Rattle.si_graph.proofs.OnKeys.{op_at, access_at, read_by, read_at}
use Rattle.si_graph.proofs.SerialReads.{same_commit, installer_of, writer_of, between}
use Rattle.si_graph.proofs.SerialFindings.{found_is_not_given, pair_is_none, serial_clean}
use Rattle.si_graph.proofs.SnapshotFindings.{snapshots_clean}

-- ---- the same history in commit order

-- the start: right before the commit, or else any that is no commit
moved_start : Stamp → Status → Stamp
moved_start s (status.Committed c) = record { 0 = 2 * c.0 }
moved_start s status.Aborted = record { 0 = 2 * s.0 }
moved_start s status.InDoubt = record { 0 = 2 * s.0 }

moved_status : Status → Status
moved_status (status.Committed c) = status.Committed (record { 0 = 2 * c.0 + 1 })
moved_status status.Aborted = status.Aborted
moved_status status.InDoubt = status.InDoubt

moved : Txn → Txn
moved T = record T { start = moved_start T.start T.status; status = moved_status T.status }

moved_commit : (s : Status) (d : Stamp) → commit_of (moved_status s) ≡ Some d → (c : Stamp) × (s ≡ status.Committed c) × (d.0 ≡ 2 * c.0 + 1)
unfolding moved_status
moved_commit (status.Committed c) d e = (c, refl, ap (λ t. t.0) (sym (same_some e)))
moved_commit status.Aborted d e = cc
moved_commit status.InDoubt d e = cc

-- no start is a commit
even_start : (s : Stamp) (t : Status) → (n : ℕ) × ((moved_start s t).0 ≡ 2 * n)
unfolding moved_start
even_start s (status.Committed c) = (c.0, refl)
even_start s status.Aborted = (s.0, refl)
even_start s status.InDoubt = (s.0, refl)

committed_start : (s : Stamp) (t : Status) (c : Stamp) → t ≡ status.Committed c → (moved_start s t).0 ≡ 2 * c.0
unfolding moved_start
committed_start s t c e = ap (λ u. (moved_start s u).0) e

module _ (P : Present) (h : IsHistory P) where
  R : Present
  R = record P { txns = map moved P.txns }

  -- a transaction that commits then, and what it was
  record WasCommitted (V : Txn) (e : Stamp) : Type 0 where
    txn : Txn
    present : Contains P.txns txn
    is : moved txn ≡ V
    commit : Stamp
    committed : txn.status ≡ status.Committed commit
    number : e.0 ≡ 2 * commit.0 + 1
    id : V.id ≡ txn.id
    start : V.start.0 ≡ 2 * commit.0

  was_committed : (V : Txn) (e : Stamp) → Contains R.txns V → commit_of V.status ≡ Some e → WasCommitted V e
  unfolding moved R
  was_committed V e at c =
      let m = Contains-from_map moved P.txns V at in
      let s = moved_commit m.0.status e (ap (λ T. commit_of T.status) m.2 ∙ c) in
      record {
        txn = m.0;
        present = m.1;
        is = m.2;
        commit = s.0;
        committed = s.1;
        number = s.2;
        id = ap (λ T. T.id) (sym m.2);
        start = ap (λ T. T.start.0) (sym m.2) ∙ committed_start m.0.start m.0.status s.0 s.1;
      }

  some_back : (V T : Txn) → moved T ≡ V → WritesSome V → WritesSome T
  unfolding moved
  some_back V T is w = subst WritesSome (sym is) w

  moved_history : IsHistory R
  unfolding moved R
  moved_history = record {
    forward = λ V e at c. let w = was_committed V e at c in let s = w.start in let n = w.number in omega arith;
    apart = λ V e at c some. let w = was_committed V e at c in let s = w.start in let n = w.number in omega arith;
    names = names_map (λ T. T.id) (λ T. T.id) moved (λ T. refl) P.txns h.names;
    stamps = λ A B e a b differ c some.
        let w = was_committed A e a c in
        let m = Contains-from_map moved P.txns B b in
        let n = w.number in (
          λ same.
              let even = even_start m.0.start m.0.status in
              let is = even.1 in
              let start : (moved_start m.0.start m.0.status).0 ≡ B.start.0 = ap (λ T. T.start.0) m.2 in
              let number = ap (λ t. t.0) same in
              omega arith,
          λ same.
              let v = was_committed B e b same in
              let k = v.number in
              let one : v.commit ≡ w.commit = (let number : v.commit.0 ≡ w.commit.0 = omega arith in λ j. record { 0 = number j }) in
              let apart = h.stamps w.txn v.txn w.commit w.present v.present (λ id. differ (w.id ∙ id ∙ sym v.id)) (ap commit_of w.committed) (some_back A w.txn w.is some) in
              apart.1 (ap commit_of v.committed ∙ ap Some one),
        );
    writes = λ A B i j x v a b s t.
        let m = Contains-from_map moved P.txns A a in
        let n = Contains-from_map moved P.txns B b in
        let w = h.writes m.0 n.0 i j x v m.1 n.1 (subst (λ T. WritesPairAt T i x v) (sym m.2) s) (subst (λ T. WritesPairAt T j x v) (sym n.2) t) in
        (ap (λ T. T.id) (sym m.2) ∙ w.0 ∙ ap (λ T. T.id) n.2, w.1);
    keys = h.keys;
    initial = λ x v V i at c w. let m = Contains-from_map moved P.txns V c in h.initial x v m.0 i at m.1 (subst (λ T. WritesPairAt T i x v) (sym m.2) w);
  }

  outcome_stays : (s : Status) → IsSameOutcome s (moved_status s)
  unfolding moved_status
  outcome_stays (status.Committed c) = tt
  outcome_stays status.Aborted = tt
  outcome_stays status.InDoubt = tt

  moved_stamps : HasOtherStamps P R
  unfolding moved R
  moved_stamps = record {
    initial = refl;
    kept = λ T at. (moved T, Contains-map moved P.txns T at, record { id = refl; ops = refl; outcome = outcome_stays T.status });
    alone = λ V at. (let m = Contains-from_map moved P.txns V at in (m.0, m.1, subst (IsRestamped m.0) m.2 (record { id = refl; ops = refl; outcome = outcome_stays m.0.status })));
  }

  moved_ordered : IsInCommitOrder R
  moved_ordered V W e f v w some differ from before =
      let a = was_committed V e v.txn (ap commit_of v.committed) in
      let b = was_committed W f w.txn (ap commit_of w.committed) in
      let s = a.start in
      let m = a.number in
      let n = b.number in
      omega arith

  number_of : (T V : Txn) (c e : Stamp) → IsCommitOf P R T c V e → e.0 ≡ 2 * c.0 + 1
  number_of T V c e t =
      let a = was_committed V e t.is.txn (ap commit_of t.is.committed) in
      let one = same_named (λ S. S.id) P.txns h.names a.txn T a.present t.was.txn (sym a.id ∙ t.id) in
      let stamp : a.commit ≡ c = same_some (ap commit_of (sym a.committed ∙ ap (λ S. S.status) one ∙ t.was.committed)) in
      let number = ap (λ s. s.0) stamp in
      let n = a.number in
      omega arith

  moved_order : KeepsCommitOrder P R
  moved_order T V U W c e d f t u some =
      let m = number_of T V c e t in
      let n = number_of U W d f u in
      (λ less. omega arith, λ less. omega arith)

  pub order_there : (S : Present) × IsInCommitOrderOf P S
  order_there = (R, record { stamps = moved_stamps; order = moved_order; history = moved_history; ordered = moved_ordered })

-- ---- what keys hold, in two histories that keep the order of commits

-- V is T in the other history, with the same operations
record IsBoth (P R : Present) (T : Txn) (c : Stamp) (V : Txn) (e : Stamp) : Type 0 where
  was : Commits P T c
  is : Commits R V e
  id : V.id ≡ T.id
  ops : V.ops ≡ T.ops

swapped : (P R : Present) (T V : Txn) (c e : Stamp) → IsBoth P R T c V e → IsBoth R P V e T c
swapped P R T V c e b = record { was = b.is; is = b.was; id = sym b.id; ops = sym b.ops }

same_pair : (T V : Txn) (i : ℕ) (x : List ℕ) (v : Value) → V.ops ≡ T.ops → WritesPairAt T i x v → WritesPairAt V i x v
same_pair T V i x v e w = ap (λ ops. slice_get ops i) e ∙ w

same_last : (T V : Txn) (x : List ℕ) (v : Value) → V.ops ≡ T.ops → IsLastWrite T x v → IsLastWrite V x v
same_last T V x v e l = record { place = l.place; is = same_pair T V l.place x v e l.is; last = λ j w a. l.last j w (same_pair V T j x w (sym e) a) }

same_before : (T V : Txn) (i : ℕ) (x : List ℕ) (v : Value) → V.ops ≡ T.ops → IsLastBefore T i x v → IsLastBefore V i x v
same_before T V i x v e l = record { place = l.place; before = l.before; is = same_pair T V l.place x v e l.is; last = λ j w a. l.last j w (same_pair V T j x w (sym e) a) }

module _ (P R : Present) (initial : R.initial ≡ P.initial)
    (to : (T : Txn) (c : Stamp) → Commits P T c → (V : Txn) × (e : Stamp) × IsBoth P R T c V e)
    (back : (V : Txn) (e : Stamp) → Commits R V e → (T : Txn) × (c : Stamp) × IsBoth P R T c V e)
    (order : (T V U W : Txn) (c e d f : Stamp) → IsBoth P R T c V e → IsBoth P R U d W f → WritesSome U → (d.0 < c.0) ↔ (f.0 < e.0)) where
  writes_back : (U W : Txn) (d f : Stamp) (x : List ℕ) → IsBoth P R U d W f → CommitsWrite R W f x → CommitsWrite P U d x
  writes_back U W d f x b w = record { commits = b.was; place = w.place; value = w.value; writes = same_pair W U w.place x w.value (sym b.ops) w.writes }

  some_write : (U : Txn) (d : Stamp) (x : List ℕ) → CommitsWrite P U d x → WritesSome U
  some_write U d x u = (u.place, x, u.value, u.writes)

  module _ (T V : Txn) (c e : Stamp) (b : IsBoth P R T c V e) where
    left_to : (x : List ℕ) (w : Value) → IsLeft P c x w → IsLeft R e x w
    left_to x w l =
        let n = to l.writer l.commit l.commits in
        let some : WritesSome l.writer = (l.wrote.place, x, w, l.wrote.is) in
        record {
          writer = n.0;
          commit = n.1;
          commits = n.2.is;
          wrote = same_last l.writer n.0 x w n.2.ops l.wrote;
          before = (order T V l.writer n.0 c e l.commit n.1 b n.2 some).0 l.before;
          last = λ Z g z less.
              let m = back Z g z.commits in
              let u = writes_back m.0 Z m.1 g x m.2 z in
              let early = (order T V m.0 Z c e m.1 g b m.2 (some_write m.0 m.1 x u)).1 less in
              let most = l.last m.0 m.1 u early in
              elim (cases_order n.1.0 g.0) [
                | inl same ↦ omega arith
                | inr rest ↦ elim rest [
                  | inl past ↦ (let beyond = (order m.0 Z l.writer n.0 m.1 g l.commit n.1 m.2 n.2 some).1 past in omega arith)
                  | inr under ↦ omega arith
                ]
              ];
        }

    holds_to : (x : List ℕ) (v : Option Value) → Holds P c x v → Holds R e x v
    holds_to x v (inl l) = inl (l.0, l.1, left_to x l.0 l.2)
    holds_to x v (inr u) = inr (
      λ Z g z less.
          let m = back Z g z.commits in
          let w = writes_back m.0 Z m.1 g x m.2 z in
          u.0 m.0 m.1 w ((order T V m.0 Z c e m.1 g b m.2 (some_write m.0 m.1 x w)).1 less),
      u.1 ∙ ap (set_up_value x) (sym initial),
    )

    gives_to : (i : ℕ) (x : List ℕ) (v : Option Value) → Gives P T c i x v → Gives R V e i x v
    gives_to i x v (inl own) = inl (own.0, own.1, same_before T V i x own.0 b.ops own.2)
    gives_to i x v (inr g) = inr (λ w o. g.0 w (same_before V T i x w (sym b.ops) o), holds_to x v g.1)

-- ---- a history and the same in commit order

committed_too : (s t : Status) (c : Stamp) → IsSameOutcome s t → s ≡ status.Committed c → (e : Stamp) × (t ≡ status.Committed e)
committed_too (status.Committed d) (status.Committed e) c o is = (e, refl)
committed_too (status.Committed d) status.Aborted c o is = absurd o
committed_too (status.Committed d) status.InDoubt c o is = absurd o
committed_too status.Aborted t c o is = cc
committed_too status.InDoubt t c o is = cc

same_outcome : (s t : Status) → IsSameOutcome s t → IsSameOutcome t s
same_outcome (status.Committed c) (status.Committed d) o = tt
same_outcome (status.Committed c) status.Aborted o = absurd o
same_outcome (status.Committed c) status.InDoubt o = absurd o
same_outcome status.Aborted (status.Committed d) o = absurd o
same_outcome status.Aborted status.Aborted o = tt
same_outcome status.Aborted status.InDoubt o = absurd o
same_outcome status.InDoubt (status.Committed d) o = absurd o
same_outcome status.InDoubt status.Aborted o = absurd o
same_outcome status.InDoubt status.InDoubt o = tt

module _ (laws : ModelLaws) (P R : Present) (h : IsHistory P) (clean : findings P ≡ []) (k : IsInCommitOrderOf P R) where
  to : (T : Txn) (c : Stamp) → Commits P T c → (V : Txn) × (e : Stamp) × IsBoth P R T c V e
  to T c t =
      let v = k.stamps.kept T t.txn in
      let e = committed_too T.status v.0.status c v.2.outcome t.committed in
      (v.0, e.0, record { was = t; is = record { txn = v.1; committed = e.1 }; id = v.2.id; ops = v.2.ops })

  back : (V : Txn) (e : Stamp) → Commits R V e → (T : Txn) × (c : Stamp) × IsBoth P R T c V e
  back V e v =
      let t = k.stamps.alone V v.txn in
      let c = committed_too V.status t.0.status e (same_outcome t.0.status V.status t.2.outcome) v.committed in
      (t.0, c.0, record { was = record { txn = t.1; committed = c.1 }; is = v; id = t.2.id; ops = t.2.ops })

  order : (T V U W : Txn) (c e d f : Stamp) → IsBoth P R T c V e → IsBoth P R U d W f → WritesSome U → (d.0 < c.0) ↔ (f.0 < e.0)
  order T V U W c e d f b n = k.order T V U W c e d f (record { was = b.was; is = b.is; id = b.id }) (record { was = n.was; is = n.is; id = n.id })

  gives_there : (T V : Txn) (c e : Stamp) → IsBoth P R T c V e → (i : ℕ) (x : List ℕ) (v : Option Value) → Gives P T c i x v → Gives R V e i x v
  gives_there = gives_to P R k.stamps.initial to back order

  gives_here : (T V : Txn) (c e : Stamp) → IsBoth P R T c V e → (i : ℕ) (x : List ℕ) (v : Option Value) → Gives R V e i x v → Gives P T c i x v
  gives_here T V c e b = gives_to R P (sym k.stamps.initial)
      (λ W f w. let u = back W f w in (u.0, u.1, swapped P R u.0 W u.1 f u.2))
      (λ U d u. let w = to U d u in (w.0, w.1, swapped P R U w.0 d w.1 w.2))
      (λ A B C D a b c d m n some. let same = order B A D C b a d c (swapped R P A B a b m) (swapped R P C D c d n) (some.0, some.1, some.2, same_pair C D some.0 some.1 some.2 n.ops some.3) in (same.1, same.0))
      V T e c (swapped P R T V c e b)

  snapshot : (T : Txn) (c : Stamp) (i : ℕ) (x : List ℕ) (v : Option Value) → Commits P T c → ReadsAt T i x v → Gives P T T.start i x v
  snapshot = ((snapshots_clean laws P h).0 clean).reads

  -- ---- a read across a commit

  -- what the key held at the start isn't what it holds at the commit
  differs : (T U : Txn) (c d : Stamp) (x : List ℕ) (v : Option Value) → CommitsWrite P U d x → T.start.0 < d.0 → d.0 < c.0 → Holds P c x v → Holds P T.start x v → ⊥
  differs T U c d x v u after before (inr un) held = un.0 U d u before
  differs T U c d x v u after before (inl l) (inl m) =
      let L = l.2 in
      let M = m.2 in
      let value : l.0 ≡ m.0 = same_some (sym l.1 ∙ m.1) in
      let named = (h.writes L.writer M.writer L.wrote.place M.wrote.place x m.0 L.commits.txn M.commits.txn (subst (WritesPairAt L.writer L.wrote.place x) value L.wrote.is) M.wrote.is).0 in
      let stamp = same_commit laws P h L.writer M.writer L.commit M.commit L.commits M.commits named in
      let most = L.last U d u before in
      let early = M.before in
      omega arith
  differs T U c d x v u after before (inl l) (inr un) =
      h.initial x l.0 l.2.writer l.2.wrote.place (set_up_is x P.initial l.0 (sym un.1 ∙ l.1)) l.2.commits.txn l.2.wrote.is

  across_dirty : HasReadAcross P → findings R ≡ [] → ⊥
  across_dirty a none =
      let x = a.key in
      let b = read_by laws x P a.reader a.place a.value a.free.read in
      let T = b.txn in
      let commits : Commits P T a.commit = record { txn = b.at; committed = ap (λ (S : Part). S.status) (sym b.is) ∙ a.committed } in
      let v = to T a.commit commits in
      let serial = (serial_clean laws R k.history k.ordered).0 none v.0 v.1 a.place x a.value v.2.is (ap (λ ops. slice_get ops a.place) v.2.ops ∙ b.found) in
      let free : (w : Value) → IsLastBefore T a.place x w → ⊥ = λ w o.
      a.free.free (subst (λ S. WroteBefore S a.place) (sym b.is) (o.place, w, access_at laws x T.ops o.place (access.Write w) o.is, o.before)) in
      let U = writer_of laws P h x a.installer a.installs in
      let start = ap (λ (S : Part). S.start.0) b.is in
      let after = a.after in
      elim (gives_here T v.0 a.commit v.1 v.2 a.place x a.value serial) [
        | inl own ↦ free own.0 own.2
        | inr held ↦ elim (snapshot T a.commit a.place x a.value commits b.found) [
          | inl own ↦ free own.0 own.2
          | inr was ↦ differs T U.0 a.commit a.installer.commit x a.value U.1 (omega arith) a.before held.1 was.1
        ]
      ]

  -- ---- a finding in commit order

  module _ (T V : Txn) (c e : Stamp) (b : IsBoth P R T c V e) (i : ℕ) (x : List ℕ) (v : Option Value) (reads : ReadsAt T i x v) (dirty : Gives R V e i x v → ⊥) where
    read : IsRead (on_key x P) (part_on x T) i v
    read = read_at laws x P T c i v b.was.txn b.was.committed reads

    begun : T.start.0 ≤ c.0
    begun = h.forward T c b.was.txn (ap commit_of b.was.committed)

    -- without an own value nothing was written before
    free_read : ((w : Value) → IsLastBefore T i x w → ⊥) → IsFree (on_key x P) (part_on x T) i v
    free_read none = record {
      read = read;
      free = λ wrote.
          let u = own_before (part_on x T) i wrote.0 wrote.1 wrote.2 wrote.3 in
          let o = (laws.own (on_key x P) (part_on x T) i u.0 (laws.keys P x h) read.part).0 u.1 in
          none u.0 (record {
            place = o.place;
            before = o.before;
            is = op_at laws x T.ops (record { place = o.place; access = access.Write u.0 }) o.is;
            last = λ j w at less. o.last j w (access_at laws x T.ops j (access.Write w) at) less;
          });
    }

    -- the version a is what T read: of those after it none is installed before the start, and without one before the commit it is there still
    found_across : (none : (w : Value) → IsLastBefore T i x w → ⊥) (a : VersionId) → ((U : Txn) (d : Stamp) → CommitsWrite P U d x → IsAfter a d → T.start.0 ≤ d.0)
        → (((U : Txn) (d : Stamp) → CommitsWrite P U d x → IsAfter a d → d.0 < c.0 → ⊥) → Holds P c x v) → HasReadAcross P
    found_across none a late still = by (next_after (on_key x P).parts a) ((laws.next (on_key x P) a (next_after (on_key x P).parts a) (laws.keys P x h)).1 refl)
      where
        quiet : ((U : Txn) (d : Stamp) → CommitsWrite P U d x → IsAfter a d → d.0 < c.0 → ⊥) → ⊥
        quiet q = dirty (gives_there T V c e b i x v (inr (none, still q)))

        by : (o : Option Installer) → IsNextIfAny (on_key x P) a o → HasReadAcross P
        by None last = absurd (quiet (λ U d u after less. last (record { txn = U.id; start = U.start; commit = d }) (installer_of laws P h x U d u) after))
        by (Some n) next = elim (cases_order n.commit.0 c.0) [
          | inl same ↦ absurd (quiet (λ U d u after less. let first = next.first (record { txn = U.id; start = U.start; commit = d }) (installer_of laws P h x U d u) after in omega arith))
          | inr rest ↦ elim rest [
            | inr past ↦ absurd (quiet (λ U d u after less. let first = next.first (record { txn = U.id; start = U.start; commit = d }) (installer_of laws P h x U d u) after in omega arith))
            | inl before ↦ across before
          ]
        ]
          where
            N : (U : Txn) × CommitsWrite P U n.commit x × (n.start ≡ U.start) × (n.txn ≡ U.id)
            N = writer_of laws P h x n next.installs

            across : n.commit.0 < c.0 → HasReadAcross P
            across before =
                let other : N.0.id ≢ T.id = λ same. (let one = same_commit laws P h N.0 T n.commit c N.1.commits b.was same in omega arith) in
                let apart = (h.stamps N.0 T n.commit N.1.commits.txn b.was.txn other (ap commit_of N.1.commits.committed) (N.1.place, x, N.1.value, N.1.writes)).0 in
                let differ : n.commit.0 ≢ T.start.0 = λ same. apart (λ j. record { 0 = same j }) in
                let from = late N.0 n.commit N.1 next.after in
                record {
                  key = x;
                  reader = part_on x T;
                  place = i;
                  value = v;
                  free = free_read none;
                  commit = c;
                  committed = b.was.committed;
                  installer = n;
                  installs = next.installs;
                  other = λ same. other (sym N.3 ∙ same);
                  after = omega arith;
                  before = before;
                }

    holds_across : ((w : Value) → IsLastBefore T i x w → ⊥) → Holds P T.start x v → HasReadAcross P
    holds_across none (inl l) =
        let L = l.2 in
        found_across none (version.Installed L.commit)
        (λ U d u after. elim (cases_order d.0 T.start.0) [
          | inl same ↦ omega arith
          | inr rest ↦ elim rest [ inl early ↦ (let most = L.last U d u early in omega arith) | inr past ↦ omega arith ]
        ])
        (λ q. inl (
          l.0,
          l.1,
          record {
            writer = L.writer;
            commit = L.commit;
            commits = L.commits;
            wrote = L.wrote;
            before = (let early = L.before in let start = begun in omega arith);
            last = λ U d u less. elim (cases_order d.0 L.commit.0) [
              | inl same ↦ omega arith
              | inr rest ↦ elim rest [ inl under ↦ omega arith | inr past ↦ absurd (q U d u past less) ]
            ];
          },
        ))
    holds_across none (inr un) = found_across none version.Initial
        (λ U d u after. elim (cases_order d.0 T.start.0) [
          | inl same ↦ omega arith
          | inr rest ↦ elim rest [ inl early ↦ absurd (un.0 U d u early) | inr past ↦ omega arith ]
        ])
        (λ q. inr (λ U d u less. q U d u tt less, un.1))

    given_across : Gives P T T.start i x v → HasReadAcross P
    given_across (inl own) = absurd (dirty (gives_there T V c e b i x v (inl own)))
    given_across (inr g) = holds_across g.0 g.1

  finding_across : (f : Finding) → IsFinding R f → HasReadAcross P
  finding_across f (inr p) = absurd (pair_is_none laws R k.history k.ordered f.key f.kind p)
  finding_across f (inl r) =
      let x = f.key in
      let b = read_by laws x R r.part r.place r.value r.returned in
      let V = b.txn in
      let e = b.committed.0 in
      let commits : Commits R V e = record { txn = b.at; committed = b.committed.1 } in
      let t = back V e commits in
      let reads : ReadsAt t.0 r.place x r.value = ap (λ ops. slice_get ops r.place) (sym t.2.ops) ∙ b.found in
      given_across t.0 V t.1 e t.2 r.place x r.value reads
      (found_is_not_given laws R k.history x f.kind r b e (k.history.forward V e b.at (ap commit_of b.committed.1)) (omega arith) (λ U d u. between laws R k.history k.ordered V U e d x commits u))
      (snapshot t.0 t.1 r.place x r.value t.2.was reads)

  pub unmoved_serial : HasReadAcross P ↔ (findings R ≡ [] → ⊥)
  unmoved_serial = (across_dirty, λ some. go some (findings R) refl)
    where
      go : (findings R ≡ [] → ⊥) → (l : List Finding) → findings R ≡ l → HasReadAcross P
      go some [] is = absurd (some is)
      go some (f ∷ fs) is = finding_across f ((laws.findings R k.history).sound f (subst (λ l. Contains l f) (sym is) (here f fs)))
