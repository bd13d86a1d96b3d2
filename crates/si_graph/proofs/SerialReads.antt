-- What is seen at a read of a transaction that committed has no kind exactly where the read returned what its key held at a stamp that
-- is no earlier than the transaction's start and no later than its commit, where no write of the key is committed from the start to that
-- stamp. The start is such a stamp, and in a history in commit order so is the commit.
use Rattle.std.proofs.Common.{◌≡◌, ◌≢◌, ◌∙◌, inl, inr, ℕ, ◌<◌, ◌≤◌, Bool, true, false, cond, List, Option, Some, None, refl, sym, ap, ap₂, subst, nat_lt, arith}
use Rattle.std.specs.List.{Contains}
use Rattle.std.specs.Option.{option_eq}
use Rattle.std.proofs.lemmas.Bool.{cases_order, le-ltb, ltb-false}
use Rattle.si_model.specs.declared.numbers.Stamp.{Stamp}
use Rattle.si_model.specs.declared.numbers.Value.{Value}
use Rattle.si_model.specs.declared.parts.Access.TheVariants as access
use Rattle.si_model.specs.declared.transactions.Status.TheVariants as status
use Rattle.si_model.specs.declared.transactions.Txn.{Txn}
use Rattle.si_model.specs.declared.parts.Part.{Part}
use Rattle.si_model.specs.declared.sights.Installer.{Installer}
use Rattle.si_model.specs.declared.sights.VersionId.{VersionId}
use Rattle.si_model.specs.declared.sights.VersionId.TheVariants as version
use Rattle.si_model.specs.declared.sights.Source.{Source}
use Rattle.si_model.specs.declared.sights.Source.TheVariants as source
use Rattle.si_model.specs.declared.sights.Sight.{Sight}
use Rattle.si_model.specs.Operations.{same_value}
use Rattle.si_model.specs.Parts.{Present, on_key}
use Rattle.si_model.specs.Versions.{Writes, IsFinalWrite, Installs, IsInstaller, IsAfter, IsNext, IsNextIfAny, commit_of, next_after}
use Rattle.si_model.specs.Reads.{IsRead, IsOwnValue, IsSource, IsMissedOf, IsSight, own_value, writes_later, version_of, judged_by_next, judged_by_source, judged_by_own, kind_of}
use Rattle.si_model.specs.History.{IsHistory}
use Rattle.si_graph.specs.Laws.{ModelLaws}
use Rattle.si_graph.specs.Serial.{ReadsAt, Commits, CommitsWrite, IsInCommitOrder, IsLastBefore, IsLastWrite, IsLeft, Holds, Gives}
use Rattle.si_lists.proofs.Members.{same_some}
use Rattle.si_lists.proofs.Names.{same_named}
use Rattle.si_graph.specs.EvidenceTests.{part_on}
use Rattle.si_graph.proofs.OnKeys.{op_at, access_at, part_from, part_in, read_at, values_decide}
use Rattle.si_graph.proofs.StartEdges.{same_node}
use Rattle.si_graph.proofs.Sights.{sight_with, sight_is, not_own}

-- ---- what no kind tells of the tests

unless_none : {A : Type 0} (b : Bool) (a : A) → cond b None (Some a) ≡ None → b ≡ true
unless_none true a e = refl
unless_none false a e = cc

if_none : {A : Type 0} (b : Bool) (a : A) (o : Option A) → cond b (Some a) o ≡ None → (b ≡ false) × (o ≡ None)
if_none true a o e = cc
if_none false a o e = (refl, e)

next_none : (s : Sight) (n : Option Installer) → judged_by_next s n ≡ None → n ≡ None
next_none s None e = refl
next_none s (Some m) e = cc

module _ (laws : ModelLaws) (P : Present) (h : IsHistory P) where
  -- ---- transactions and installers

  pub same_txn : (A B : Txn) → Contains P.txns A → Contains P.txns B → A.id ≡ B.id → A ≡ B
  same_txn A B a b e = same_named (λ (T : Txn). T.id) P.txns h.names A B a b e

  pub same_commit : (A B : Txn) (c d : Stamp) → Commits P A c → Commits P B d → A.id ≡ B.id → c.0 ≡ d.0
  same_commit A B c d a b e =
      let one = same_node P h A.id A B c d (record { txn = a.txn; id = refl; committed = a.committed }) (record { txn = b.txn; id = sym e; committed = b.committed }) in
      ap (λ (k : Stamp). k.0) one.1

  -- who commits a write installs a version
  pub installer_of : (x : List ℕ) (U : Txn) (d : Stamp) → CommitsWrite P U d x → IsInstaller (on_key x P) (record { txn = U.id; start = U.start; commit = d })
  installer_of x U d w =
      let a = access_at laws x U.ops w.place (access.Write w.value) w.writes in (
        part_on x U,
        part_in laws x P.txns U (record { place = w.place; access = access.Write w.value }) w.commits.txn a,
        record { txn = refl; start = refl; committed = w.commits.committed; writes = (w.value, (w.place, a)) },
      )

  -- and the other way round
  pub writer_of : (x : List ℕ) (n : Installer) → IsInstaller (on_key x P) n → (U : Txn) × CommitsWrite P U n.commit x × (n.start ≡ U.start) × (n.txn ≡ U.id)
  writer_of x n is =
      let f = part_from laws x P.txns is.0 is.1 in
      let e : Installs (part_on x f.0) n = subst (λ Q. Installs Q n) f.2 is.2 in (
        f.0,
        record {
          commits = record { txn = f.1; committed = e.committed };
          place = e.writes.1.0;
          value = e.writes.0;
          writes = op_at laws x f.0.ops (record { place = e.writes.1.0; access = access.Write e.writes.0 }) e.writes.1.1;
        },
        e.start,
        e.txn,
      )

  module _ (T : Txn) (c : Stamp) (i : ℕ) (x : List ℕ) (v : Option Value) (t : Commits P T c) (reads : ReadsAt T i x v) (k : Stamp) (begun : T.start.0 ≤ k.0) (ended : k.0 ≤ c.0)
      (quiet : (U : Txn) (d : Stamp) → CommitsWrite P U d x → T.start.0 ≤ d.0 → d.0 < k.0 → ⊥) where
    -- a write that is committed before the stamp is committed before the start
    before_start : (U : Txn) (d : Stamp) → CommitsWrite P U d x → d.0 < k.0 → d.0 < T.start.0
    before_start U d u lt = elim (cases_order d.0 T.start.0) [
      | inl same ↦ absurd (quiet U d u (omega (arith, same)) lt)
      | inr rest ↦ elim rest [ inl before ↦ before | inr late ↦ absurd (quiet U d u (omega (arith, late)) lt) ]
    ]

    -- where nothing was missed after a version, no write after it is committed before the stamp
    nothing_after : (a : VersionId) → ((m : Installer) → IsNext (on_key x P) a m → T.start.0 ≤ m.commit.0) → (U : Txn) (d : Stamp) → CommitsWrite P U d x → IsAfter a d → d.0 < k.0 → ⊥
    nothing_after a gap U d u after lt = go (next_after (on_key x P).parts a) ((laws.next (on_key x P) a (next_after (on_key x P).parts a) (laws.keys P x h)).1 refl)
      where
        go : (o : Option Installer) → IsNextIfAny (on_key x P) a o → ⊥
        go None none = none (record { txn = U.id; start = U.start; commit = d }) (installer_of x U d u) after
        go (Some m) next =
            let M = writer_of x m next.installs in
            let first = next.first (record { txn = U.id; start = U.start; commit = d }) (installer_of x U d u) after in
            quiet M.0 m.commit M.1 (gap m next) (omega (arith, first, lt))

    read : IsRead (on_key x P) (part_on x T) i v
    read = read_at laws x P T c i v t.txn t.committed reads

    -- ---- own writes

    own_from : (w : Value) → IsOwnValue (part_on x T) i w → IsLastBefore T i x w
    own_from w o = record {
      place = o.place;
      before = o.before;
      is = op_at laws x T.ops (record { place = o.place; access = access.Write w }) o.is;
      last = λ j u at before. o.last j u (access_at laws x T.ops j (access.Write u) at) before;
    }

    own_to : (w : Value) → IsLastBefore T i x w → IsOwnValue (part_on x T) i w
    own_to w o = record {
      place = o.place;
      before = o.before;
      is = access_at laws x T.ops o.place (access.Write w) o.is;
      last = λ j u at before. o.last j u (op_at laws x T.ops (record { place = j; access = access.Write u }) at) before;
    }

    own_is : (w : Value) → own_value (part_on x T) i ≡ Some w → IsLastBefore T i x w
    own_is w e = own_from w ((laws.own (on_key x P) (part_on x T) i w (laws.keys P x h) read.part).0 e)

    is_own : (w : Value) → IsLastBefore T i x w → own_value (part_on x T) i ≡ Some w
    is_own w o = (laws.own (on_key x P) (part_on x T) i w (laws.keys P x h) read.part).1 (own_to w o)

    -- ---- from no kind to the run

    -- what a committed transaction installed, and the reader didn't miss the next version of
    left_by : (n : own_value (part_on x T) i ≡ None) (l : writes_later (part_on x T) i v ≡ false) (d : Stamp) (w : Value) (W : Part) → v ≡ Some w → Contains (on_key x P).parts W → Writes W w
        → W.status ≡ status.Committed d → IsFinalWrite W w → d.0 ≤ T.start.0 → ((m : Installer) → IsNext (on_key x P) (version.Installed d) m → T.start.0 ≤ m.commit.0) → IsLeft P k x w
    left_by none no_later d w W is part writes committed final from gap = record {
      writer = U;
      commit = d;
      commits = commits;
      wrote = record {
        place = last.place;
        is = op_at laws x U.ops (record { place = last.place; access = access.Write w }) last.is;
        last = λ j u at. last.last j u (access_at laws x U.ops j (access.Write u) at);
      };
      before = omega (arith, before, begun);
      last = λ V e u lt. elim (cases_order d.0 e.0) [
        | inl same ↦ omega (arith, same)
        | inr rest ↦ elim rest [ inl after ↦ absurd (nothing_after (version.Installed d) gap V e u after lt) | inr lower ↦ omega (arith, lower) ]
      ];
    }
      where
        f : (U : Txn) × Contains P.txns U × (W ≡ part_on x U)
        f = part_from laws x P.txns W part

        U : Txn
        U = f.0

        commits : Commits P U d
        commits = record { txn = f.1; committed = ap (λ (Q : Part). Q.status) (sym f.2) ∙ committed }

        last : IsFinalWrite (part_on x U) w
        last = subst (λ Q. IsFinalWrite Q w) f.2 final

        wrote : Writes (part_on x U) w
        wrote = subst (λ Q. Writes Q w) f.2 writes

        other : U.id ≢ T.id
        other same = not_own laws P x (part_on x T) i v read none no_later w is (subst (λ A. Writes (part_on x A) w) (same_txn U T f.1 t.txn same) wrote)

        apart : d ≢ T.start
        apart = (h.stamps U T d f.1 t.txn other (ap commit_of commits.committed) (wrote.0, x, w, op_at laws x U.ops (record { place = wrote.0; access = access.Write w }) wrote.1)).0

        before : d.0 < T.start.0
        before = elim (cases_order d.0 T.start.0) [
          | inl same ↦ absurd (apart (λ j. record { 0 = same j }))
          | inr rest ↦ elim rest [ inl lower ↦ lower | inr late ↦ omega (arith, late, from) ]
        ]

    none_by_source : (none : own_value (part_on x T) i ≡ None) (no_later : writes_later (part_on x T) i v ≡ false) (s : Source) (n : Option Installer) → IsSource (on_key x P) v s
        → IsMissedOf (on_key x P) T.start (version_of s) n → judged_by_source (sight_with (part_on x T) i v s n) s ≡ None → Holds P k x v
    none_by_source none no_later source.Initial n from missed e =
        let gap = subst (IsMissedOf (on_key x P) T.start (Some version.Initial)) (next_none (sight_with (part_on x T) i v source.Initial n) n e) missed in
        inr (λ U d u lt. nothing_after version.Initial gap U d u tt lt, from)
    none_by_source none no_later (source.Installed u d) n from missed e =
        let both = if_none _ _ (judged_by_next (sight_with (part_on x T) i v (source.Installed u d) n) n) e in
        let gap = subst (IsMissedOf (on_key x P) T.start (Some (version.Installed d))) (next_none (sight_with (part_on x T) i v (source.Installed u d) n) n both.1) missed in
        inl (from.0, from.2, left_by none no_later d from.0 from.1 from.2 from.3.part from.3.writes from.4 from.5 (ltb-false T.start.0 d.0 both.0) gap)
    none_by_source none no_later source.Missing n from missed e = cc
    none_by_source none no_later (source.InDoubt u) n from missed e = cc
    none_by_source none no_later (source.Aborted u) n from missed e = cc
    none_by_source none no_later (source.Earlier u) n from missed e = cc

    none_gives : (s : Source) (n : Option Installer) → IsSource (on_key x P) v s → IsMissedOf (on_key x P) T.start (version_of s) n → kind_of (sight_with (part_on x T) i v s n) ≡ None → Gives P T k i x v
    unfolding kind_of
    none_gives s n from missed e = by (own_value (part_on x T) i) refl (writes_later (part_on x T) i v) refl e
      where
        by : (o : Option Value) → own_value (part_on x T) i ≡ o → (b : Bool) → writes_later (part_on x T) i v ≡ b → judged_by_own (sight_with (part_on x T) i v s n) o b ≡ None → Gives P T k i x v
        by (Some w) own b later j = inl (w, (values_decide laws v (Some w)).0 (unless_none (option_eq same_value v (Some w)) _ j), own_is w own)
        by None own true later j = cc
        by None own false later j = inr (λ w o. (let is = is_own w o in cc), none_by_source own later s n from missed j)

    -- ---- from the run to no kind

    -- what the run has in x is no later write of the reader's
    not_later : Holds P k x v → (b : Bool) → writes_later (part_on x T) i v ≡ b → b ≡ false
    not_later holds false e = refl
    not_later holds true e =
        let r = (laws.later (part_on x T) i v).0 e in
        let at = op_at laws x T.ops (record { place = r.2.0; access = access.Write r.0 }) r.2.2 in
        elim holds [
          | inl l ↦ (
              let left = l.2 in
              let written = subst (IsLastWrite left.writer x) (same_some (sym l.1 ∙ r.1)) left.wrote in
              let same = (h.writes left.writer T written.place r.2.0 x r.0 left.commits.txn t.txn written.is at).0 in
              let one = same_commit left.writer T left.commit c left.commits t same in
              let before = left.before in
              absurd (omega (arith, before, one, ended))
              )
          | inr u ↦ absurd ((laws.keys P x h).initial r.0 (part_on x T) (sym u.1 ∙ r.1) read.part (r.2.0, r.2.2))
        ]

    holds_none : (s : Source) (n : Option Installer) → IsSource (on_key x P) v s → IsMissedOf (on_key x P) T.start (version_of s) n → Holds P k x v
        → judged_by_source (sight_with (part_on x T) i v s n) s ≡ None
    holds_none s n from missed (inl l) = subst (λ r. IsMissedOf (on_key x P) T.start (version_of r) n → judged_by_source (sight_with (part_on x T) i v r n) r ≡ None) (sym one) (seen n) missed
      where
        w : Value
        w = l.0

        left : IsLeft P k x w
        left = l.2

        U : Txn
        U = left.writer

        u : CommitsWrite P U left.commit x
        u = record { commits = left.commits; place = left.wrote.place; value = w; writes = left.wrote.is }

        at : Writes (part_on x U) w
        at = (left.wrote.place, access_at laws x U.ops left.wrote.place (access.Write w) left.wrote.is)

        final : IsFinalWrite (part_on x U) w
        final = record {
          place = left.wrote.place;
          is = at.1;
          last = λ j y a. left.wrote.last j y (op_at laws x U.ops (record { place = j; access = access.Write y }) a);
        }

        is : IsSource (on_key x P) v (source.Installed U.id left.commit)
        is = (
          w,
          part_on x U,
          l.1,
          record { part = part_in laws x P.txns U (record { place = left.wrote.place; access = access.Write w }) left.commits.txn at.1; id = refl; writes = at },
          left.commits.committed,
          final,
        )

        one : s ≡ source.Installed U.id left.commit
        one = (laws.sources (on_key x P) v s (laws.keys P x h)).0 from ∙ sym ((laws.sources (on_key x P) v (source.Installed U.id left.commit) (laws.keys P x h)).0 is)

        early : nat_lt T.start.0 left.commit.0 ≡ false
        early = le-ltb T.start.0 left.commit.0 (let before = before_start U left.commit u left.before in omega (arith, before))

        seen : (m : Option Installer) → IsMissedOf (on_key x P) T.start (Some (version.Installed left.commit)) m → judged_by_source (sight_with (part_on x T) i v (source.Installed U.id left.commit) m) (source.Installed U.id left.commit) ≡ None
        seen None gap = rw early refl
        seen (Some m) gap =
            let M = writer_of x m gap.0.installs in
            let least = left.last M.0 m.commit M.1 (let lt = gap.1 in omega (arith, lt, begun)) in
            let after = gap.0.after in
            absurd (omega (arith, least, after))
    holds_none s n from missed (inr r) = subst (λ r. IsMissedOf (on_key x P) T.start (version_of r) n → judged_by_source (sight_with (part_on x T) i v r n) r ≡ None) (sym one) (seen n) missed
      where
        one : s ≡ source.Initial
        one = (laws.sources (on_key x P) v s (laws.keys P x h)).0 from ∙ sym ((laws.sources (on_key x P) v source.Initial (laws.keys P x h)).0 r.1)

        seen : (m : Option Installer) → IsMissedOf (on_key x P) T.start (Some version.Initial) m → judged_by_source (sight_with (part_on x T) i v source.Initial m) source.Initial ≡ None
        seen None gap = refl
        seen (Some m) gap = let M = writer_of x m gap.0.installs in absurd (r.0 M.0 m.commit M.1 (let lt = gap.1 in omega (arith, lt, begun)))

    gives_none : (s : Source) (n : Option Installer) → IsSource (on_key x P) v s → IsMissedOf (on_key x P) T.start (version_of s) n → Gives P T k i x v → kind_of (sight_with (part_on x T) i v s n) ≡ None
    unfolding kind_of
    gives_none s n from missed (inl own) =
        ap (λ o. judged_by_own (sight_with (part_on x T) i v s n) o (writes_later (part_on x T) i v)) (is_own own.0 own.2) ∙ rw ((values_decide laws v (Some own.0)).1 own.1) refl
    gives_none s n from missed (inr both) =
        ap₂ (judged_by_own (sight_with (part_on x T) i v s n)) (no_own (own_value (part_on x T) i) refl) (not_later both.1 (writes_later (part_on x T) i v) refl) ∙ holds_none s n from missed both.1
      where
        no_own : (o : Option Value) → own_value (part_on x T) i ≡ o → o ≡ None
        no_own None e = refl
        no_own (Some w) e = absurd (both.0 w (own_is w e))

    -- ---- the same of whatever is seen

    pub unjudged_is_given : (s : Sight) → IsSight (on_key x P) (part_on x T) i v s → kind_of s ≡ None → Gives P T k i x v
    unjudged_is_given s is e = none_gives s.source s.missed is.from is.missed (ap kind_of (sym (sight_is (on_key x P) (part_on x T) i v s is)) ∙ e)

    pub given_is_unjudged : (s : Sight) → IsSight (on_key x P) (part_on x T) i v s → Gives P T k i x v → kind_of s ≡ None
    given_is_unjudged s is g = ap kind_of (sight_is (on_key x P) (part_on x T) i v s is) ∙ gives_none s.source s.missed is.from is.missed g

  module _ (ordered : IsInCommitOrder P) where
    -- no write is committed between a start and its commit
    pub between : (T U : Txn) (c d : Stamp) (x : List ℕ) → Commits P T c → CommitsWrite P U d x → T.start.0 ≤ d.0 → d.0 < c.0 → ⊥
    between T U c d x t u from to =
        ordered T U c d t u.commits (u.place, x, u.value, u.writes) (λ same. (let e = same_commit T U c d t u.commits same in omega (arith, to, e))) from to
