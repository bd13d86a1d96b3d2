-- Below a horizon nothing has a finding later that had none at the horizon, and what is final at a second one is final of all.
use Rattle.std.proofs.Common.{◌≡◌, ◌≢◌, ◌⊎◌, inl, inr, ℕ, ◌<◌, ◌≤◌, Bool, true, false, nat_lt, List, ◌++◌, Option, Some, None, refl, sym, ap, subst, ◌∙◌, arith, cond}
use Rattle.std.specs.List.{Contains}
use Rattle.std.specs.Option.{option_eq}
use Rattle.std.proofs.lemmas.Bool.{cases_lt, ltb-true, lt-ltb, le-ltb}
use Rattle.si_model.specs.declared.numbers.TxnId.{TxnId}
use Rattle.si_model.specs.declared.numbers.Stamp.{Stamp}
use Rattle.si_model.specs.declared.numbers.Value.{Value}
use Rattle.si_model.specs.declared.transactions.Status.TheVariants as status
use Rattle.si_model.specs.declared.transactions.Txn.{Txn}
use Rattle.si_model.specs.declared.parts.Access.TheVariants as access
use Rattle.si_model.specs.declared.parts.Part.{Part}
use Rattle.si_model.specs.declared.parts.OnKey.{OnKey}
use Rattle.si_model.specs.declared.sights.Installer.{Installer}
use Rattle.si_model.specs.declared.sights.VersionId.{VersionId}
use Rattle.si_model.specs.declared.sights.VersionId.TheVariants as version
use Rattle.si_model.specs.declared.sights.Source.{Source}
use Rattle.si_model.specs.declared.sights.Source.TheVariants as source
use Rattle.si_model.specs.declared.kinds.Kind.{Kind}
use Rattle.si_model.specs.declared.kinds.Kind.TheVariants as kind
use Rattle.si_model.specs.Operations.{same_value}
use Rattle.si_model.specs.Parts.{Present, on_key}
use Rattle.si_model.specs.Versions.{commit_of, IsInstaller, IsAfter, IsNextIfAny, next_after}
use Rattle.si_model.specs.Reads.{IsRead, IsSource, own_value, writes_later, source_of, sight_of, if_before, missed_at, judged_by_next, judged_by_source, judged_by_own, kind_of}
use Rattle.si_model.specs.Order.{number}
use Rattle.si_model.specs.Findings.{cases, IsOfPair, IsFoundOn}
use Rattle.si_model.specs.History.{IsHistory, IsOfHistory}
use Rattle.si_model.specs.Journals.{present}
use Rattle.si_model.specs.ChanceLaws.{Finds}
use Rattle.si_model.specs.Horizons.{StartsBelow, IsOfBelow, IsToldAs, CommitsBelow, subject, carried}
use Rattle.si_model.specs.HorizonLaws.{IsFinal, NothingComesBelow, FinalsAreFinal}
use Rattle.si_lists.proofs.Members.{same_some}
use Rattle.si_lists.proofs.Names.{same_named}
use Rattle.si_model.proofs.KeyParts.{parts_are}
use Rattle.si_model.proofs.Histories.{key_of_history, same_commit, one_part}
use Rattle.si_model.proofs.LastWrites.{one_access}
use Rattle.si_model.proofs.NextVersions.{next_is}
use Rattle.si_model.proofs.Sources.{source_is, same_source, sight_is, same_sight}
use Rattle.si_model.proofs.Exact.{findings_exact}
use Rattle.si_model.proofs.Acceptance.{accepted_begins}
use Rattle.si_model.proofs.PresentHistories.{present_history}
use Rattle.si_model.proofs.ReadChanges.{read_of, kind_read}
use Rattle.si_model.proofs.Returning.{found_read}
use Rattle.si_model.proofs.Carrying.{carried_history}
use Rattle.si_model.proofs.CarryingTwice.{twice}
use Rattle.si_model.proofs.KeyCarrying.{key_over}
use Rattle.si_model.proofs.Losses.{read_below, nothing_lost}
use Rattle.si_model.proofs.Finals.{Stays, stays_on, part_stays, part_new, same_initial, subject_of}

-- ---- one key on which nothing new started below the horizon

module _ (H : Stamp) (Q R : OnKey) (g : IsOfHistory Q) (h : IsOfHistory R) (initial : Q.initial ≡ R.initial)
    (stays : (T : Part) → Contains Q.parts T → T.status ≢ status.InDoubt → Contains R.parts T) (new : (U : Part) → Contains R.parts U → Contains Q.parts U ⊎ (H.0 ≤ U.start.0)) where
  known : (T : Part) (c : Stamp) → T.status ≡ status.Committed c → T.status ≢ status.InDoubt
  known T c e d = let wrong = sym e ∙ d in cc

  old : (U : Part) → Contains R.parts U → U.start.0 < H.0 → Contains Q.parts U
  old U c less = elim (new U c) [ inl at ↦ at | inr late ↦ absurd (omega arith) ]

  -- a version that was installed below, or whose installer started below, was there at the horizon
  old_installer : (n : Installer) → IsInstaller R n → n.start.0 < H.0 → IsInstaller Q n
  old_installer n i less = (i.0, old i.0 i.1 (subst (λ s. s.0 < H.0) i.2.start less), i.2)

  starts : (n : Installer) → IsInstaller R n → n.commit.0 < H.0 → n.start.0 < H.0
  starts n i less =
      let up = h.forward i.0 n.commit i.1 (ap commit_of i.2.committed) in
      let same = ap (λ s. s.0) i.2.start in
      omega arith

  installer_stays : (n : Installer) → IsInstaller Q n → IsInstaller R n
  installer_stays n i = (i.0, stays i.0 i.1 (known i.0 n.commit i.2.committed), i.2)

  -- two versions of which the first was installed below
  pair_was : (k : Kind) (p : IsOfPair cases R k) → p.first.commit.0 < H.0 → (q : IsOfPair cases Q k) × (q.first.commit.0 < H.0)
  pair_was k p less =
      let next = p.next in
      let overlap = ltb-true p.second.start.0 p.first.commit.0 p.judged in (
        record {
          first = p.first;
          second = p.second;
          installs = old_installer p.first p.installs (starts p.first p.installs less);
          next = record { installs = old_installer p.second next.installs (omega arith); after = next.after; first = λ m i after. next.first m (installer_stays m i) after };
          judged = p.judged;
          is = p.is;
        },
        less,
      )

  -- ---- a read that had no finding has none

  module _ (T : Part) (i : ℕ) (v : Option Value) (below : T.start.0 < H.0) where
    -- where nothing was missed, nothing is
    none_missed : (a : VersionId) → if_before T.start (next_after Q.parts a) ≡ None → if_before T.start (next_after R.parts a) ≡ None
    none_missed a e = by (next_after R.parts a) (next_is R a)
      where
        early : (m : Installer) → IsInstaller Q m → IsAfter a m.commit → m.commit.0 < T.start.0 → (o : Option Installer) → IsNextIfAny Q a o → if_before T.start o ≡ None → ⊥
        early m at after less None none f = none m at after
        early m at after less (Some n) next f =
            let first = next.first m at after in
            let t = lt-ltb n.commit.0 T.start.0 (omega arith) in
            let wrong = sym (ap (λ b. cond b (Some n) None) t) ∙ f in
            cc

        by : (o : Option Installer) → IsNextIfAny R a o → if_before T.start o ≡ None
        by None next = refl
        by (Some m) next = elim (cases_lt m.commit.0 T.start.0) [
          | inl less ↦ (let at = old_installer m next.installs (starts m next.installs (omega arith)) in absurd (early m at next.after less (next_after Q.parts a) (next_is Q a) e))
          | inr more ↦ ap (λ b. cond b (Some m) None) (le-ltb m.commit.0 T.start.0 more)
        ]

    abbrev JudgedNone : OnKey → Source → Type 0
    JudgedNone K s = judged_by_source (sight_of K T i v) s ≡ None

    by_next : (K : OnKey) (o : Option Installer) → judged_by_next (sight_of K T i v) o ≡ None → o ≡ None
    by_next K None e = refl
    by_next K (Some n) e = cc

    still : (s : Source) → source_of Q v ≡ s → IsSource Q v s → JudgedNone Q s → judged_by_source (sight_of R T i v) (source_of R v) ≡ None
    unfolding sight_of missed_at
    still source.Missing e is f = cc
    still (source.InDoubt u) e is f = cc
    still (source.Aborted u) e is f = cc
    still (source.Earlier u) e is f = cc
    still source.Initial e is f =
        let same = sym (same_source R h v source.Initial (is ∙ initial)) in
        let none = none_missed version.Initial (sym (ap (missed_at Q.parts T.start) e) ∙ by_next Q (missed_at Q.parts T.start (source_of Q v)) f) in
        ap (judged_by_source (sight_of R T i v)) same ∙ ap (judged_by_next (sight_of R T i v)) (ap (missed_at R.parts T.start) same ∙ none)
    still (source.Installed u c) e is f = by (nat_lt T.start.0 c.0) refl f
      where
        same : source_of R v ≡ source.Installed u c
        same = let a = is.3 in sym (same_source R h v (source.Installed u c) (is.0, is.1, is.2, record { part = stays is.1 a.part (known is.1 c is.4); id = a.id; writes = a.writes }, is.4, is.5))

        by : (b : Bool) → nat_lt T.start.0 c.0 ≡ b → cond b (Some (kind.Future T.id i v u)) (judged_by_next (sight_of Q T i v) (missed_at Q.parts T.start (source_of Q v))) ≡ None → judged_by_source (sight_of R T i v) (source_of R v) ≡ None
        by true t f = cc
        by false t f =
            let none = none_missed (version.Installed c) (sym (ap (missed_at Q.parts T.start) e) ∙ by_next Q (missed_at Q.parts T.start (source_of Q v)) f) in
            ap (judged_by_source (sight_of R T i v)) same
            ∙ ap (λ b. cond b (Some (kind.Future T.id i v u)) (judged_by_next (sight_of R T i v) (missed_at R.parts T.start (source_of R v)))) t
            ∙ ap (judged_by_next (sight_of R T i v)) (ap (missed_at R.parts T.start) same ∙ none)

    still_own : (o : Option Value) (later : Bool) → judged_by_own (sight_of Q T i v) o later ≡ None → judged_by_own (sight_of R T i v) o later ≡ None
    unfolding sight_of
    still_own (Some w) later e = by (option_eq same_value v (Some w)) e
      where
        by : (b : Bool) → cond b None (Some (kind.Own T.id i v (Some w))) ≡ None → cond b None (Some (kind.Own T.id i v (Some w))) ≡ None
        by b f = f
    still_own None true e = cc
    still_own None false e = still (source_of Q v) refl (source_is Q g v) e

    none_still : kind_of (sight_of Q T i v) ≡ None → kind_of (sight_of R T i v) ≡ None
    unfolding kind_of sight_of
    none_still e = still_own (own_value T i) (writes_later T i v) e

    read_was : (k : Kind) → kind_of (sight_of R T i v) ≡ Some k → (j : Kind) × (kind_of (sight_of Q T i v) ≡ Some j)
    read_was k e = by (kind_of (sight_of Q T i v)) refl
      where
        by : (o : Option Kind) → kind_of (sight_of Q T i v) ≡ o → (j : Kind) × (o ≡ Some j)
        by None f = let wrong = sym (none_still f) ∙ e in cc
        by (Some j) f = (j, refl)

-- ---- the first law

-- who reads what is below started below
pub reader_starts : (P : Present) (H : Stamp) (k : Kind) (t : TxnId) (i : ℕ) → read_of k ≡ Some (t, i) → IsOfBelow P H k → StartsBelow P H t
reader_starts P H (kind.Unknown u j v) t i e b = subst (StartsBelow P H) (ap (λ p. p.0) (same_some e)) b
reader_starts P H (kind.Doubt u j v w) t i e b = subst (StartsBelow P H) (ap (λ p. p.0) (same_some e)) b
reader_starts P H (kind.Own u j v w) t i e b = subst (StartsBelow P H) (ap (λ p. p.0) (same_some e)) b
reader_starts P H (kind.Aborted u j v w) t i e b = subst (StartsBelow P H) (ap (λ p. p.0) (same_some e)) b
reader_starts P H (kind.Intermediate u j v w) t i e b = subst (StartsBelow P H) (ap (λ p. p.0) (same_some e)) b
reader_starts P H (kind.Future u j v w) t i e b = subst (StartsBelow P H) (ap (λ p. p.0) (same_some e)) b
reader_starts P H (kind.Stale u j v w) t i e b = subst (StartsBelow P H) (ap (λ p. p.0) (same_some e)) b
reader_starts P H (kind.Overlap a b) t i e below = cc

-- two versions of which the first was installed below
pair_below : (P : Present) (H : Stamp) (x : List ℕ) (k : Kind) (p : IsOfPair cases (on_key x P) k) → p.first.commit.0 < H.0 → IsOfBelow P H k
pair_below P H x k p less =
    let i = p.installs in
    let of = (parts_are x P.txns i.0).0 i.1 in
    subst (IsOfBelow P H) (sym p.is) (of.0, of.1, sym of.2.id ∙ sym i.2.txn, (p.first.commit, sym of.2.status ∙ i.2.committed, less))

module _ (P R : Present) (H : Stamp) (settled : List TxnId) (h : IsHistory P) (later : IsHistory R) (s : Stays P R H settled) (x : List ℕ) where
  abbrev Q : OnKey
  Q = on_key x P

  abbrev S : OnKey
  S = on_key x R

  read_was_below : (k : Kind) (T : Part) (i : ℕ) (v : Option Value) → IsRead S T i v → kind_of (sight_of S T i v) ≡ Some k → read_of k ≡ Some (T.id, i) → IsOfBelow R H k
      → (j : Kind) × Finds P x j × IsOfBelow P H j × (subject j ≡ subject k)
  unfolding sight_of
  read_was_below k T i v r e named below =
      let g = key_of_history P x h in
      let f = key_of_history R x later in
      let start = reader_starts R H k T.id i named below in
      let of = (parts_are x R.txns T).0 r.part in
      let one = same_named (λ V. V.id) R.txns later.names of.0 start.0 of.1 start.1 (sym of.2.id ∙ sym start.2) in
      let less : T.start.0 < H.0 = subst (λ t. t.0 < H.0) (ap (λ V. V.start) (sym one) ∙ sym of.2.start) start.3 in
      let to = part_stays P R H settled h later s x in
      let from = part_new P R H settled h later s x in
      let same = same_initial P R H settled h later s x in
      let was = read_was H Q S g f same to from T i v less k e in
      let at = old H Q S g f same to from T r.part less in
      let there = (parts_are x P.txns T).0 at in
      let read = kind_read (sight_of Q T i v) was.0 was.1 in (
        was.0,
        (findings_exact P h).complete (record { key = x; kind = was.0 })
            (inl (record { part = T; place = i; value = v; sight = sight_of Q T i v; returned = record { part = at; committed = r.committed; returned = r.returned }; seen = sight_is Q g T i v; judged = was.1 })),
        read_below P H was.0 T.id i read (there.0, there.1, sym there.2.id, subst (λ t. t.0 < H.0) there.2.start less),
        subject_of was.0 T.id i read ∙ sym (subject_of k T.id i named),
      )

  was_below : (k : Kind) → IsFoundOn cases S k → IsOfBelow R H k → (j : Kind) × Finds P x j × IsOfBelow P H j × (subject j ≡ subject k)
  unfolding sight_of
  was_below k (inl r) below =
      let e = ap kind_of (sym (same_sight S (key_of_history R x later) r.part r.place r.value r.sight r.seen)) ∙ r.judged in
      read_was_below k r.part r.place r.value r.returned e (kind_read (sight_of S r.part r.place r.value) k e) below
  was_below k (inr p) below =
      let g = key_of_history P x h in
      let f = key_of_history R x later in
      let i = p.installs in
      let of = (parts_are x R.txns i.0).0 i.1 in
      let b : (T : Txn) × Contains R.txns T × (T.id ≡ p.first.txn) × CommitsBelow H T = subst (IsOfBelow R H) p.is below in
      let one = same_named (λ V. V.id) R.txns later.names b.0 of.0 b.1 of.1 (b.2 ∙ i.2.txn ∙ of.2.id) in
      let stamp = ap (λ t. t.0) (same_commit b.3.0 p.first.commit (sym b.3.1 ∙ ap (λ V. V.status) one ∙ sym of.2.status ∙ i.2.committed)) in
      let under = b.3.2 in
      let less : p.first.commit.0 < H.0 = omega arith in
      let was = pair_was H Q S g f (same_initial P R H settled h later s x) (part_stays P R H settled h later s x) (part_new P R H settled h later s x) k p less in
      (k, (findings_exact P h).complete (record { key = x; kind = k }) (inr was.0), pair_below P H x k was.0 was.1, refl)

pub nothing_below : NothingComesBelow
nothing_below edits more H settled x k a doubt listed late found below =
    let later = present_history (edits ++ more) a in
    was_below (present edits) (present (edits ++ more)) H settled (present_history edits (accepted_begins edits more a)) later
    (stays_on edits more H settled a doubt listed late) x k ((findings_exact (present (edits ++ more)) later).sound (record { key = x; kind = k }) found) below

-- ---- what lies below isn't found of what is carried over

module _ (P : Present) (H : Stamp) (h : IsHistory P) (x : List ℕ) where
  read_over : (k : Kind) → IsOfBelow P H k → (t : TxnId) (i : ℕ) → read_of k ≡ Some (t, i) → Finds (carried H P) x k → ⊥
  read_over k below t i e c =
      let f = found_read (carried H P) x k t i (carried_history P H h) c e in
      let over = (key_over P H h x).reads f.0 i f.1 f.2 in
      let of = (parts_are x P.txns f.0).0 over.1 in
      let start = reader_starts P H k t i e below in
      let one = same_named (λ V. V.id) P.txns h.names of.0 start.0 of.1 start.1 (sym of.2.id ∙ f.3 ∙ sym start.2) in
      let late = over.0 in
      let less : f.0.start.0 < H.0 = subst (λ t. t.0 < H.0) (ap (λ V. V.start) (sym one) ∙ sym of.2.start) start.3 in
      omega arith

  pair_over : (k : Kind) → IsOfBelow P H k → IsOfPair cases (on_key x (carried H P)) k → ⊥
  pair_over k below p =
      let i = p.installs in
      let from = (key_over P H h x).from i.0 i.1 in
      let of = (parts_are x P.txns from.0).0 from.1 in
      let b : (T : Txn) × Contains P.txns T × (T.id ≡ p.first.txn) × CommitsBelow H T = subst (IsOfBelow P H) p.is below in
      let one = same_named (λ V. V.id) P.txns h.names b.0 of.0 b.1 of.1 (b.2 ∙ i.2.txn ∙ from.3.id ∙ of.2.id) in
      from.2 (inl (b.3.0, of.2.status ∙ ap (λ V. V.status) (sym one) ∙ b.3.1, b.3.2))

  pub below_over : (k : Kind) → IsOfBelow P H k → Finds (carried H P) x k → ⊥
  below_over k below c = by (read_of k) refl
    where
      by : (o : Option (TxnId × ℕ)) → read_of k ≡ o → ⊥
      by (Some p) e = read_over k below p.0 p.1 e c
      by None e = elim ((findings_exact (carried H P) (carried_history P H h)).sound (record { key = x; kind = k }) c) [
        | inl r ↦ (let wrong = sym e ∙ kind_read r.sight k r.judged in cc)
        | inr p ↦ pair_over k below p
      ]

-- ---- the second law

-- a read that is told as unknown is a violation otherwise
pub record IsToldRead (k j : Kind) : Type 0 where
  pub txn : TxnId
  pub place : ℕ
  pub read : read_of k ≡ Some (txn, place)
  pub told : read_of j ≡ Some (txn, place)
  pub unknown : number j ≡ 1
  pub violation : 2 < number k
  pub subject : subject k ≡ subject j

pub told_read : (k j : Kind) → IsToldAs k j → IsToldRead k j
told_read (kind.Aborted t i v u) j e = record { txn = t; place = i; read = refl; told = ap read_of e; unknown = ap number e; violation = omega arith; subject = ap subject (sym e) }
told_read (kind.Intermediate t i v u) j e = record { txn = t; place = i; read = refl; told = ap read_of e; unknown = ap number e; violation = omega arith; subject = ap subject (sym e) }
told_read (kind.Stale t i v n) j e = record { txn = t; place = i; read = refl; told = ap read_of e; unknown = ap number e; violation = omega arith; subject = ap subject (sym e) }
told_read (kind.Unknown t i v) j e = absurd e
told_read (kind.Doubt t i v u) j e = absurd e
told_read (kind.Own t i v w) j e = absurd e
told_read (kind.Future t i v u) j e = absurd e
told_read (kind.Overlap a b) j e = absurd e

-- a read has one finding at most
pub one_kind : (P : Present) (x : List ℕ) (j k : Kind) (t : TxnId) (i : ℕ) → IsHistory P → Finds P x j → Finds P x k → read_of j ≡ Some (t, i) → read_of k ≡ Some (t, i) → j ≡ k
one_kind P x j k t i h a b d e =
    let Q = on_key x P in
    let g = key_of_history P x h in
    let f = found_read P x j t i h a d in
    let r = found_read P x k t i h b e in
    let part = one_part Q g f.0 r.0 f.2.part r.2.part (f.3 ∙ sym r.3) in
    let mine : Contains r.0.accesses (record { place = i; access = access.Read f.1 }) = subst (λ T. Contains T.accesses (record { place = i; access = access.Read f.1 })) part f.2.returned in
    let same = one_access Q g r.0 (record { place = i; access = access.Read f.1 }) (record { place = i; access = access.Read r.1 }) r.2.part mine r.2.returned refl in
    let value : f.1 ≡ r.1 = read_value f.1 r.1 (ap (λ c. c.access) same) in
    same_some (sym f.4 ∙ (λ n. kind_of (sight_of Q (part n) i (value n))) ∙ r.4)
  where
    read_value : (v w : Option Value) → access.Read v ≡ access.Read w → v ≡ w
    read_value v w e = cc

pub finals_final : FinalsAreFinal
finals_final P H K x j h le final =
    let E = carried H P in
    let g = carried_history P H h in
    let same = twice P H K h le in
    elim ((nothing_lost P H h).new x j final.0) [
      | inl found ↦ (j, (found, λ c. final.1 (subst (λ R. Finds R x j) (sym same) c)), refl, λ more. more)
      | inr t ↦
          (let k = t.0 in
          let told = told_read k j t.1 in
          let one = told.unknown in
          let past = told.violation in (
            k,
            (
              t.2,
              λ c. elim ((nothing_lost E K g).new x k (subst (λ R. Finds R x k) (sym same) c)) [
                | inl found ↦ (let number = ap number (one_kind E x k j told.txn told.place g found final.0 told.read told.told) in omega arith)
                | inr again ↦ (let other = (told_read again.0 k again.1).unknown in omega arith)
              ],
            ),
            told.subject,
            λ more. past,
          ))
    ]

-- what is found at a horizon is found of what is carried over it, or is final
pub final_or_carried : (P : Present) (H : Stamp) (x : List ℕ) (k : Kind) → IsHistory P → Finds P x k → Finds (carried H P) x k ⊎ IsFinal P H x k
final_or_carried P H x k h found = elim ((nothing_lost P H h).kept x k found) [
  | inl f ↦ inl f
  | inr or ↦ elim or [
    | inl below ↦ inr (found, below_over P H h x k below)
    | inr t ↦
        (let told = told_read k t.0 t.1 in
        let one = told.unknown in
        let past = told.violation in
        inr (found, λ c. let same = ap number (one_kind (carried H P) x k t.0 told.txn told.place (carried_history P H h) c t.2 told.read told.told) in omega arith))
  ]
]
