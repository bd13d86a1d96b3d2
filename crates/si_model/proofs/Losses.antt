-- What is found of a history, beside what is found of what is carried over a horizon.
use Rattle.std.proofs.Common.{◌≡◌, ◌≢◌, ◌⊎◌, inl, inr, ℕ, ◌<◌, ◌≤◌, Bool, true, false, List, Option, Some, None, refl, sym, ap, subst, ◌∙◌, arith, cond}
use Rattle.std.specs.List.{Contains}
use Rattle.std.proofs.lemmas.Bool.{cases_lt, lt-ltb, le-ltb}
use Rattle.si_model.specs.declared.numbers.TxnId.{TxnId}
use Rattle.si_model.specs.declared.numbers.Stamp.{Stamp}
use Rattle.si_model.specs.declared.numbers.Value.{Value}
use Rattle.si_model.specs.declared.transactions.Status.TheVariants as status
use Rattle.si_model.specs.declared.parts.Part.{Part}
use Rattle.si_model.specs.declared.parts.OnKey.{OnKey}
use Rattle.si_model.specs.declared.sights.Installer.{Installer}
use Rattle.si_model.specs.declared.sights.VersionId.{VersionId}
use Rattle.si_model.specs.declared.sights.VersionId.TheVariants as version
use Rattle.si_model.specs.declared.sights.Source.{Source}
use Rattle.si_model.specs.declared.sights.Source.TheVariants as source
use Rattle.si_model.specs.declared.sights.Sight.{Sight}
use Rattle.si_model.specs.declared.kinds.Kind.{Kind}
use Rattle.si_model.specs.declared.kinds.Kind.TheVariants as kind
use Rattle.si_model.specs.Parts.{Present, on_key}
use Rattle.si_model.specs.Versions.{Writes, IsFinalWrite, IsInstaller, IsAfter, IsNextIfAny, next_after}
use Rattle.si_model.specs.Reads.{IsRead, IsSource, own_value, writes_later, source_of, sight_of, if_before, missed_at, judged_by_next, judged_by_source, judged_by_own, kind_of}
use Rattle.si_model.specs.Findings.{cases, IsFoundOn}
use Rattle.si_model.specs.History.{IsOfHistory}
use Rattle.si_model.specs.Horizons.{StartsBelow, IsOfBelow, IsToldAs, carried}
use Rattle.si_model.specs.HorizonLaws.{NothingIsLost}
use Rattle.si_lists.proofs.Members.{same_some}
use Rattle.si_model.proofs.KeyParts.{parts_are}
use Rattle.si_model.proofs.Histories.{key_of_history, same_commit, one_writer, one_installer}
use Rattle.si_model.proofs.LastWrites.{last_is_final}
use Rattle.si_model.proofs.NextVersions.{next_is, next_exact}
use Rattle.si_model.proofs.Sources.{source_is, same_source, sight_is, same_sight}
use Rattle.si_model.proofs.Exact.{findings_exact}
use Rattle.si_model.proofs.ReadChanges.{read_of, kind_read}
use Rattle.si_model.proofs.Carrying.{carried_history}
use Rattle.si_model.proofs.KeyCarrying.{PartGone, BelowOn, IsOver, key_over}

-- ---- what is seen at a read, by its source and what was missed

abbrev shown : Part → ℕ → Option Value → Source → Option Installer → Sight
shown T i v s m = record {
  txn = T.id;
  op = i;
  start = T.start;
  read = v;
  own = own_value T i;
  later = writes_later T i v;
  source = s;
  missed = m;
}

abbrev unknown : Part → ℕ → Option Value → Kind
unknown T i v = kind.Unknown T.id i v

-- the second judgement is the first, or the read is told as unknown there
abbrev AreTold : Part → ℕ → Option Value → Option Kind → Option Kind → Type 0
AreTold T i v before behind = (behind ≡ before) ⊎ ((k : Kind) × (before ≡ Some k) × IsToldAs k (unknown T i v) × (behind ≡ Some (unknown T i v)))

-- it is so with own writes too
told_own : (T : Part) (i : ℕ) (v : Option Value) (s r : Source) (m n : Option Installer) (o : Option Value) (later : Bool) → AreTold T i v (judged_by_source (shown T i v s m) s) (judged_by_source (shown T i v r n) r)
    → AreTold T i v (judged_by_own (shown T i v s m) o later) (judged_by_own (shown T i v r n) o later)
told_own T i v s r m n (Some w) later t = inl refl
told_own T i v s r m n None true t = inl refl
told_own T i v s r m n None false t = t

-- a missed version is judged whatever the source
next_alike : (T : Part) (i : ℕ) (v : Option Value) (s r : Source) (m n o : Option Installer) → judged_by_next (shown T i v r n) o ≡ judged_by_next (shown T i v s m) o
next_alike T i v s r m n None = refl
next_alike T i v s r m n (Some a) = refl

module _ (H : Stamp) (Q R : OnKey) (g : IsOfHistory Q) (h : IsOfHistory R) (over : IsOver H Q R) where
  -- ---- versions

  installer_to : (n : Installer) → IsInstaller Q n → H.0 ≤ n.commit.0 → IsInstaller R n
  installer_to n i past =
      let is = i.2 in
      let w = is.writes in
      let k = over.kept i.0 n.commit i.1 is.committed past w.0 w.1 in
      (k.0, k.1, record { txn = is.txn ∙ sym k.2.id; start = is.start ∙ sym k.2.start; committed = k.2.status ∙ is.committed; writes = (w.0, k.2.to w.0 w.1) })

  installer_from : (n : Installer) → IsInstaller R n → IsInstaller Q n
  installer_from n i =
      let is = i.2 in
      let w = is.writes in
      let f = over.from i.0 i.1 in
      (f.0, f.1, record { txn = is.txn ∙ f.3.id; start = is.start ∙ f.3.start; committed = sym f.3.status ∙ is.committed; writes = (w.0, f.3.from w.0 w.1) })

  installer_past : (n : Installer) → IsInstaller R n → H.0 ≤ n.commit.0
  installer_past n i = elim (cases_lt n.commit.0 H.0) [
    | inl less ↦ (let f = over.from i.0 i.1 in absurd (f.2 (inl (n.commit, sym f.3.status ∙ i.2.committed, less))))
    | inr more ↦ more
  ]

  next_moves : (a b : VersionId) → ((n : Installer) → IsInstaller Q n → IsAfter a n.commit → (H.0 ≤ n.commit.0) × IsAfter b n.commit) → ((n : Installer) → IsInstaller R n → IsAfter b n.commit → IsAfter a n.commit)
      → (o : Option Installer) → IsNextIfAny Q a o → IsNextIfAny R b o
  next_moves a b past back None none = λ n i after. none n (installer_from n i) (back n i after)
  next_moves a b past back (Some n) is = let p = past n is.installs is.after in record {
    installs = installer_to n is.installs p.0;
    after = p.1;
    first = λ m i after. is.first m (installer_from m i) (back m i after);
  }

  same_next : (a b : VersionId) → ((n : Installer) → IsInstaller Q n → IsAfter a n.commit → (H.0 ≤ n.commit.0) × IsAfter b n.commit) → ((n : Installer) → IsInstaller R n → IsAfter b n.commit → IsAfter a n.commit)
      → next_after R.parts b ≡ next_after Q.parts a
  same_next a b past back = sym ((next_exact R b (next_after Q.parts a) h).0 (next_moves a b past back (next_after Q.parts a) (next_is Q a)))

  -- the last version below
  below_installer : BelowOn H Q R → Installer
  below_installer b = record { txn = b.part.id; start = b.part.start; commit = b.commit }

  below_installs : (b : BelowOn H Q R) → IsInstaller Q (below_installer b)
  unfolding below_installer
  below_installs b = (b.part, b.at, record { txn = refl; start = refl; committed = b.committed; writes = (b.value, (b.final.place, b.final.is)) })

  -- ---- one read

  module _ (T : Part) (i : ℕ) (v : Option Value) (late : H.0 ≤ T.start.0) where
    Told : Type 0
    Told = AreTold T i v (kind_of (sight_of Q T i v)) (kind_of (sight_of R T i v))

    judged : (K : OnKey) (s : Source) → source_of K v ≡ s → kind_of (sight_of K T i v) ≡ judged_by_own (shown T i v s (missed_at K.parts T.start s)) (own_value T i) (writes_later T i v)
    unfolding kind_of sight_of
    judged K s e = ap (λ r. judged_by_own (shown T i v r (missed_at K.parts T.start r)) (own_value T i) (writes_later T i v)) e

    told : (s r : Source) → IsSource Q v s → IsSource R v r
        → AreTold T i v (judged_by_source (shown T i v s (missed_at Q.parts T.start s)) s) (judged_by_source (shown T i v r (missed_at R.parts T.start r)) r) → Told
    unfolding Told
    told s r is isr t =
        let e = judged Q s (sym (same_source Q g v s is)) in
        let f = judged R r (sym (same_source R h v r isr)) in
        elim (told_own T i v s r (missed_at Q.parts T.start s) (missed_at R.parts T.start r) (own_value T i) (writes_later T i v) t) [
          | inl same ↦ inl (f ∙ same ∙ sym e)
          | inr k ↦ inr (k.0, e ∙ k.1, k.2, f ∙ k.3)
        ]

    -- where a version below comes after the one that was read, one was missed
    missed : (a : VersionId) (n : Installer) → IsInstaller Q n → IsAfter a n.commit → n.commit.0 < H.0 → (m : Installer) × (if_before T.start (next_after Q.parts a) ≡ Some m)
    missed a n is after less = by (next_after Q.parts a) (next_is Q a)
      where
        by : (o : Option Installer) → IsNextIfAny Q a o → (m : Installer) × (if_before T.start o ≡ Some m)
        by None none = absurd (none n is after)
        by (Some m) next = let first = next.first n is after in (m, ap (λ b. cond b (Some m) None) (lt-ltb m.commit.0 T.start.0 (omega arith)))

    -- ---- a value whose writer is gone is from nowhere

    nowhere : ((w : Value) (S : Part) → v ≡ Some w → Contains Q.parts S → Writes S w → PartGone H S) → v ≢ R.initial → IsSource R v source.Missing
    nowhere gone not = (not, λ w U e c a. let f = over.from U c in f.2 (gone w f.0 e f.1 (f.3.from w a)))

    module _ (w : Value) (S : Part) (e : v ≡ Some w) (at : Contains Q.parts S) (a : Writes S w) where
      only_gone : PartGone H S → (u : Value) (U : Part) → v ≡ Some u → Contains Q.parts U → Writes U u → PartGone H U
      only_gone gone u U f c b = subst (PartGone H) (one_writer Q g S U w at c a (subst (Writes U) (same_some (sym f ∙ e)) b)) gone

      not_initial : ((b : BelowOn H Q R) → b.part ≡ S → b.value ≡ w → ⊥) → v ≢ R.initial
      not_initial other f = elim over.initial [
        | inl b ↦
            (let same = same_some (sym b.initial ∙ sym f ∙ e) in
            other b (one_writer Q g b.part S w b.at at (subst (Writes b.part) same (b.final.place, b.final.is)) a) same)
        | inr n ↦ g.initial w S (sym n.initial ∙ sym f ∙ e) at a
      ]

    -- ---- by the source

    read_initial : IsSource Q v source.Initial → Told
    unfolding missed_at below_installer
    read_initial is = elim over.initial [
      | inl b ↦
          (let m = missed version.Initial (below_installer b) (below_installs b) tt b.below in
          told source.Initial source.Missing is
          (nowhere (λ w S e c a. absurd (g.initial w S (sym is ∙ e) c a)) (λ f. g.initial b.value b.part (sym is ∙ f ∙ b.initial) b.at (b.final.place, b.final.is)))
          (inr (kind.Stale T.id i v m.0.txn, ap (λ o. judged_by_source (shown T i v source.Initial o) source.Initial) m.1, refl, refl)))
      | inr n ↦ told source.Initial source.Initial is (is ∙ sym n.initial)
          (inl (ap (λ o. judged_by_source (shown T i v source.Initial (if_before T.start o)) source.Initial)
          (same_next version.Initial version.Initial (λ k j after. (elim (cases_lt k.commit.0 H.0) [ inl less ↦ absurd (n.none k j less) | inr more ↦ more ], tt)) (λ k j after. tt))))
    ]

    read_missing : IsSource Q v source.Missing → Told
    unfolding missed_at
    read_missing is = told source.Missing source.Missing is
        (nowhere (λ w S e c a. absurd (is.1 w S e c a)) (λ f. elim over.initial [
          | inl b ↦ is.1 b.value b.part (f ∙ b.initial) b.at (b.final.place, b.final.is)
          | inr n ↦ is.0 (f ∙ n.initial)
        ]))
        (inl refl)

    read_doubt : (u : TxnId) → IsSource Q v (source.InDoubt u) → Told
    unfolding missed_at
    read_doubt u is = let a = is.3 in told (source.InDoubt u) (source.InDoubt u) is (is.0, is.1, is.2, record { part = over.whole is.1 a.part (inr is.4); id = a.id; writes = a.writes }, is.4) (inl refl)

    read_aborted : (u : TxnId) → IsSource Q v (source.Aborted u) → Told
    unfolding missed_at
    read_aborted u is =
        let w = is.0 in
        let S = is.1 in
        let a = is.3 in
        elim (cases_lt S.start.0 H.0) [
          | inl less ↦ told (source.Aborted u) source.Missing is
              (nowhere (only_gone w S is.2 a.part a.writes (inr (is.4, less))) (not_initial w S is.2 a.part a.writes (λ b same val. let wrong = sym b.committed ∙ ap (λ P. P.status) same ∙ is.4 in cc)))
              (inr (kind.Aborted T.id i v u, refl, refl, refl))
          | inr more ↦ told (source.Aborted u) (source.Aborted u) is (w, S, is.2, record { part = over.whole S a.part (inl more); id = a.id; writes = a.writes }, is.4) (inl refl)
        ]

    read_earlier : (u : TxnId) → IsSource Q v (source.Earlier u) → Told
    unfolding missed_at
    read_earlier u is =
        let w = is.0 in
        let S = is.1 in
        let a = is.3 in
        let c = is.4 in
        elim (cases_lt c.0.0 H.0) [
          | inl less ↦ told (source.Earlier u) source.Missing is
              (nowhere (only_gone w S is.2 a.part a.writes (inl (c.0, c.1, less)))
              (not_initial w S is.2 a.part a.writes (λ b same val. is.5 (subst (λ P. IsFinalWrite P w) same (subst (IsFinalWrite b.part) val b.final)))))
              (inr (kind.Intermediate T.id i v u, refl, refl, refl))
          | inr past ↦
              (let k = over.kept S c.0 a.part c.1 past w a.writes in
              told (source.Earlier u) (source.Earlier u) is
              (w, k.0, is.2, record { part = k.1; id = a.id ∙ sym k.2.id; writes = k.2.to w a.writes }, (c.0, k.2.status ∙ c.1), λ f. is.5 (k.2.final_from w f))
              (inl refl))
        ]

    module _ (u : TxnId) (c : Stamp) (is : IsSource Q v (source.Installed u c)) where
      installs : IsInstaller Q (record { txn = is.1.id; start = is.1.start; commit = c })
      installs = let a = is.3 in (is.1, a.part, record { txn = refl; start = refl; committed = is.4; writes = (is.0, a.writes) })

      -- a version that was installed below, with a later one below
      read_older : c.0 < H.0 → (b : BelowOn H Q R) → c.0 < b.commit.0 → Told
      unfolding missed_at below_installer
      read_older less b older =
          let w = is.0 in
          let S = is.1 in
          let a = is.3 in
          let m = missed (version.Installed c) (below_installer b) (below_installs b) older b.below in
          let not_future = le-ltb T.start.0 c.0 (omega arith) in
          told (source.Installed u c) source.Missing is
          (nowhere (only_gone w S is.2 a.part a.writes (inl (c, is.4, less))) (not_initial w S is.2 a.part a.writes (λ d same val.
          let stamp = ap (λ t. t.0) (same_commit d.commit c (sym d.committed ∙ ap (λ P. P.status) same ∙ is.4)) in
          let most = d.last (below_installer b) (below_installs b) b.below in
          omega arith)))
          (inr (
            kind.Stale T.id i v m.0.txn,
            ap (λ o. judged_by_source (shown T i v (source.Installed u c) o) (source.Installed u c)) m.1 ∙ ap (λ t. cond t (Some (kind.Future T.id i v u)) (Some (kind.Stale T.id i v m.0.txn))) not_future,
            refl,
            refl,
          ))

      -- the last one that was installed below
      read_last : c.0 < H.0 → (b : BelowOn H Q R) → b.commit.0 ≤ c.0 → c.0 ≤ b.commit.0 → Told
      unfolding missed_at below_installer below_installs installs
      read_last less b le ge =
          let a = is.3 in
          let stamp : b.commit ≡ c = (λ j. record { 0 = (let n : b.commit.0 ≡ c.0 = omega arith in n) j }) in
          let part : b.part ≡ is.1 = one_installer Q g b.part is.1 (below_installer b) (record { txn = is.1.id; start = is.1.start; commit = c }) b.at a.part (below_installs b).2 installs.2 stamp in
          let mine = (last_is_final Q is.1 b.value g a.part).1 (subst (λ P. IsFinalWrite P b.value) part b.final) in
          let theirs = (last_is_final Q is.1 is.0 g a.part).1 is.5 in
          let value : b.value ≡ is.0 = same_some (sym mine ∙ theirs) in
          let initial : v ≡ R.initial = is.2 ∙ ap Some (sym value) ∙ sym b.initial in
          let next = same_next (version.Installed c) version.Initial
          (λ n j after. (elim (cases_lt n.commit.0 H.0) [ inl below ↦ (let most = b.last n j below in absurd (omega arith)) | inr more ↦ more ], tt))
          (λ n j after. let past = installer_past n j in omega arith) in
          let not_future = le-ltb T.start.0 c.0 (omega arith) in
          let o = if_before T.start (next_after Q.parts (version.Installed c)) in
          told (source.Installed u c) source.Initial is initial
          (inl (
          ap (λ p. judged_by_source (shown T i v source.Initial (if_before T.start p)) source.Initial) next
          ∙ next_alike T i v (source.Installed u c) source.Initial o o o
          ∙ ap (λ t. cond t (Some (kind.Future T.id i v u)) (judged_by_next (shown T i v (source.Installed u c) o) o)) (sym not_future)
          ))

      read_installed : Told
      unfolding missed_at
      read_installed = elim (cases_lt c.0 H.0) [
        | inl less ↦ elim over.initial [
          | inl b ↦ (let le = b.last (record { txn = is.1.id; start = is.1.start; commit = c }) installs less in elim (cases_lt c.0 b.commit.0) [ inl older ↦ read_older less b older | inr ge ↦ read_last less b ge le ])
          | inr n ↦ absurd (n.none (record { txn = is.1.id; start = is.1.start; commit = c }) installs less)
        ]
        | inr past ↦
            (let a = is.3 in
            let k = over.kept is.1 c a.part is.4 past is.0 a.writes in
            told (source.Installed u c) (source.Installed u c) is
            (is.0, k.0, is.2, record { part = k.1; id = a.id ∙ sym k.2.id; writes = k.2.to is.0 a.writes }, k.2.status ∙ is.4, k.2.final_to is.0 is.5)
            (inl (ap (λ o. judged_by_source (shown T i v (source.Installed u c) (if_before T.start o)) (source.Installed u c))
            (same_next (version.Installed c) (version.Installed c) (λ n j after. ((let l = after in omega arith), after)) (λ n j after. after)))))
      ]

    by_source : (s : Source) → IsSource Q v s → Told
    by_source source.Initial is = read_initial is
    by_source source.Missing is = read_missing is
    by_source (source.InDoubt u) is = read_doubt u is
    by_source (source.Aborted u) is = read_aborted u is
    by_source (source.Earlier u) is = read_earlier u is
    by_source (source.Installed u c) is = read_installed u c is

    -- a read that started at the horizon or later is judged the same behind it, or told as unknown there
    read_told : AreTold T i v (kind_of (sight_of Q T i v)) (kind_of (sight_of R T i v))
    unfolding Told
    read_told = by_source (source_of Q v) (source_is Q g v)

  -- ---- what is found

  found_by : (K : OnKey) → IsOfHistory K → (T : Part) (i : ℕ) (v : Option Value) (k : Kind) → IsRead K T i v → kind_of (sight_of K T i v) ≡ Some k → IsFoundOn cases K k
  found_by K j T i v k r e = inl (record { part = T; place = i; value = v; sight = sight_of K T i v; returned = r; seen = sight_is K j T i v; judged = e })

  -- a read that started below, or two versions of which the first was installed below
  abbrev pub IsBelowKind : Kind → Type 0
  IsBelowKind k = ((T : Part) × Contains Q.parts T × (i : ℕ) × (T.start.0 < H.0) × (read_of k ≡ Some (T.id, i)))
      ⊎ ((T : Part) × Contains Q.parts T × (c : Stamp) × (T.status ≡ status.Committed c) × (c.0 < H.0) × (b : TxnId) × (k ≡ kind.Overlap T.id b))

  pub kept_found : (k : Kind) → IsFoundOn cases Q k → IsFoundOn cases R k ⊎ (IsBelowKind k ⊎ ((j : Kind) × IsToldAs k j × IsFoundOn cases R j))
  unfolding sight_of
  kept_found k (inl r) =
      let T = r.part in
      let i = r.place in
      let v = r.value in
      let same = same_sight Q g T i v r.sight r.seen in
      let e = ap kind_of (sym same) ∙ r.judged in
      elim (cases_lt T.start.0 H.0) [
        | inl less ↦ inr (inl (inl (T, r.returned.part, i, less, kind_read (sight_of Q T i v) k e)))
        | inr late ↦
            (let read : IsRead R T i v = record { part = over.whole T r.returned.part (inl late); committed = r.returned.committed; returned = r.returned.returned } in
            elim (read_told T i v late) [
              | inl s ↦ inl (found_by R h T i v k read (s ∙ e))
              | inr t ↦ inr (inr (unknown T i v, subst (λ j. IsToldAs j (unknown T i v)) (same_some (sym t.1 ∙ e)) t.2, found_by R h T i v (unknown T i v) read t.3))
            ])
      ]
  kept_found k (inr p) =
      let T = p.installs.0 in
      let is = p.installs.2 in
      elim (cases_lt p.first.commit.0 H.0) [
        | inl less ↦ inr (inl (inr (T, p.installs.1, p.first.commit, is.committed, less, p.second.txn, p.is ∙ ap (λ t. kind.Overlap t p.second.txn) is.txn)))
        | inr past ↦ inl (inr (record {
          first = p.first;
          second = p.second;
          installs = installer_to p.first p.installs past;
          next = next_moves (version.Installed p.first.commit) (version.Installed p.first.commit) (λ n j after. ((let l = after in omega arith), after)) (λ n j after. after) (Some p.second) p.next;
          judged = p.judged;
          is = p.is;
        }))
      ]

  pub new_found : (j : Kind) → IsFoundOn cases R j → IsFoundOn cases Q j ⊎ ((k : Kind) × IsToldAs k j × IsFoundOn cases Q k)
  new_found j (inl r) =
      let T = r.part in
      let i = r.place in
      let v = r.value in
      let same = same_sight R h T i v r.sight r.seen in
      let e = ap kind_of (sym same) ∙ r.judged in
      let was = over.reads T i v r.returned in
      let read : IsRead Q T i v = record { part = was.1; committed = r.returned.committed; returned = r.returned.returned } in
      elim (read_told T i v was.0) [
        | inl s ↦ inl (found_by Q g T i v j read (sym s ∙ e))
        | inr t ↦ inr (t.0, subst (IsToldAs t.0) (same_some (sym t.3 ∙ e)) t.2, found_by Q g T i v t.0 read t.1)
      ]
  new_found j (inr p) =
      let next = p.next in
      let past = installer_past p.first p.installs in
      inl (inr (record {
        first = p.first;
        second = p.second;
        installs = installer_from p.first p.installs;
        next = record {
          installs = installer_from p.second next.installs;
          after = next.after;
          first = λ m k after. next.first m (installer_to m k (let l = after in omega arith)) after;
        };
        judged = p.judged;
        is = p.is;
      }))

-- ---- the law

pub read_below : (P : Present) (H : Stamp) (k : Kind) (t : TxnId) (i : ℕ) → read_of k ≡ Some (t, i) → StartsBelow P H t → IsOfBelow P H k
read_below P H (kind.Unknown u j v) t i e s = subst (StartsBelow P H) (ap (λ p. p.0) (same_some (sym e))) s
read_below P H (kind.Doubt u j v w) t i e s = subst (StartsBelow P H) (ap (λ p. p.0) (same_some (sym e))) s
read_below P H (kind.Own u j v w) t i e s = subst (StartsBelow P H) (ap (λ p. p.0) (same_some (sym e))) s
read_below P H (kind.Aborted u j v w) t i e s = subst (StartsBelow P H) (ap (λ p. p.0) (same_some (sym e))) s
read_below P H (kind.Intermediate u j v w) t i e s = subst (StartsBelow P H) (ap (λ p. p.0) (same_some (sym e))) s
read_below P H (kind.Future u j v w) t i e s = subst (StartsBelow P H) (ap (λ p. p.0) (same_some (sym e))) s
read_below P H (kind.Stale u j v w) t i e s = subst (StartsBelow P H) (ap (λ p. p.0) (same_some (sym e))) s
read_below P H (kind.Overlap a b) t i e s = cc

pub nothing_lost : NothingIsLost
nothing_lost P H h =
    let g = carried_history P H h in
    record {
      kept = λ x k f.
          (let found = (findings_exact P h).sound (record { key = x; kind = k }) f in
          elim (kept_found H (on_key x P) (on_key x (carried H P)) (key_of_history P x h) (key_of_history (carried H P) x g) (key_over P H h x) k found) [
            | inl s ↦ inl ((findings_exact (carried H P) g).complete (record { key = x; kind = k }) s)
            | inr r ↦ elim r [
              | inl b ↦ inr (inl (below x k b))
              | inr t ↦ inr (inr (t.0, t.1, (findings_exact (carried H P) g).complete (record { key = x; kind = t.0 }) t.2))
            ]
          ]);
      new = λ x j f.
          (let found = (findings_exact (carried H P) g).sound (record { key = x; kind = j }) f in
          elim (new_found H (on_key x P) (on_key x (carried H P)) (key_of_history P x h) (key_of_history (carried H P) x g) (key_over P H h x) j found) [
            | inl s ↦ inl ((findings_exact P h).complete (record { key = x; kind = j }) s)
            | inr t ↦ inr (t.0, t.1, (findings_exact P h).complete (record { key = x; kind = t.0 }) t.2)
          ]);
    }
  where
    below : (x : List ℕ) (k : Kind)
        → ((T : Part) × Contains (on_key x P).parts T × (i : ℕ) × (T.start.0 < H.0) × (read_of k ≡ Some (T.id, i)))
        ⊎ ((T : Part) × Contains (on_key x P).parts T × (c : Stamp) × (T.status ≡ status.Committed c) × (c.0 < H.0) × (b : TxnId) × (k ≡ kind.Overlap T.id b))
        → IsOfBelow P H k
    below x k (inl (T, at, i, less, e)) = let f = (parts_are x P.txns T).0 at in
        read_below P H k T.id i e (f.0, f.1, sym f.2.id, subst (λ s. s.0 < H.0) f.2.start less)
    below x k (inr (T, at, c, s, less, b, e)) = let f = (parts_are x P.txns T).0 at in
        subst (IsOfBelow P H) (sym e) (f.0, f.1, sym f.2.id, (c, sym f.2.status ∙ s, less))
