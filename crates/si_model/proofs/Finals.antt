-- What is final at a horizon has a finding still, whatever comes later.
use Rattle.std.proofs.Common.{◌≡◌, ◌≢◌, ◌⊎◌, inl, inr, ℕ, ◌<◌, ◌≤◌, Bool, true, false, not, nat_lt, List, [], ◌∷◌, ◌++◌, map, Option, Some, None, refl, sym, ap, subst, ◌∙◌, arith, cond, append_assoc, append-nil}
use Rattle.std.specs.List.{Contains}
use Rattle.std.specs.Option.{option_eq}
use Rattle.std.proofs.lemmas.Bool.{cases_lt, lt-ltb}
use Rattle.si_model.specs.declared.numbers.TxnId.{TxnId}
use Rattle.si_model.specs.declared.numbers.Stamp.{Stamp}
use Rattle.si_model.specs.declared.numbers.Value.{Value}
use Rattle.si_model.specs.declared.transactions.Status.TheVariants as status
use Rattle.si_model.specs.declared.transactions.Txn.{Txn}
use Rattle.si_model.specs.declared.transactions.Outcome.{Outcome}
use Rattle.si_model.specs.declared.sights.Installer.{Installer}
use Rattle.si_model.specs.declared.edits.Edit.{Edit}
use Rattle.si_model.specs.declared.edits.Edit.TheVariants as edit
use Rattle.si_model.specs.declared.parts.Part.{Part}
use Rattle.si_model.specs.declared.parts.OnKey.{OnKey}
use Rattle.si_model.specs.declared.sights.Source.{Source}
use Rattle.si_model.specs.declared.sights.Source.TheVariants as source
use Rattle.si_model.specs.declared.kinds.Kind.{Kind}
use Rattle.si_model.specs.declared.kinds.Kind.TheVariants as kind
use Rattle.si_model.specs.Operations.{same_value}
use Rattle.si_model.specs.Parts.{Present, set_up_value, on_key}
use Rattle.si_model.specs.Versions.{commit_of, Writes}
use Rattle.si_model.specs.Reads.{IsRead, IsSource, own_value, writes_later, source_of, sight_of, missed_at, judged_by_next, judged_by_source, judged_by_own, kind_of}
use Rattle.si_model.specs.Order.{number}
use Rattle.si_model.specs.Findings.{cases, IsFoundOn}
use Rattle.si_model.specs.History.{IsHistory, IsOfHistory}
use Rattle.si_model.specs.Edits.{same_id, IsAcceptable, resolved, is_another, after}
use Rattle.si_model.specs.Journals.{present, IsAccepted}
use Rattle.si_model.specs.Laws.{TellsAgain}
use Rattle.si_model.specs.ChanceLaws.{Finds}
use Rattle.si_model.specs.Horizons.{StartsBelow, IsOfBelow, IsToldAs, HasNoDoubtBelow, ListsSettled, IsLate, subject}
use Rattle.si_model.specs.HorizonLaws.{HasSettledBelow, AreLate, FinalsStay}
use Rattle.si_lists.proofs.Members.{same_some, here, there, Contains-map, Contains-from_map, Contains-filter, Contains-from_filter}
use Rattle.si_lists.proofs.Names.{same_named}
use Rattle.si_lists.proofs.Pushes.{push_cases, push_keeps}
use Rattle.si_model.proofs.Equalities.{same_id_is}
use Rattle.si_model.proofs.KeyParts.{parts_are}
use Rattle.si_model.proofs.Histories.{key_of_history, one_writer}
use Rattle.si_model.proofs.Sources.{source_is, sight_is, same_sight}
use Rattle.si_model.proofs.Exact.{findings_exact}
use Rattle.si_model.proofs.Acceptance.{present_push, accepted_begins}
use Rattle.si_model.proofs.PresentHistories.{acceptance_exact, present_history}
use Rattle.si_model.proofs.Staying.{found_again}
use Rattle.si_model.proofs.ReadChanges.{read_of, kind_read}
use Rattle.si_model.proofs.LateEdits.{resolved_cases, late_edit}
use Rattle.si_model.proofs.Losses.{nothing_lost}

-- ---- what late edits leave of what was present

-- R is what late edits leave of P: nothing is set up, what is settled stays, and what is new started at the horizon or later
pub record Stays (P R : Present) (H : Stamp) (settled : List TxnId) : Type 0 where
  pub initial : P.initial ≡ R.initial
  pub stays : (T : Txn) → Contains P.txns T → T.status ≢ status.InDoubt → Contains R.txns T
  pub new : (U : Txn) → Contains R.txns U → Contains P.txns U ⊎ (H.0 ≤ U.start.0)
  pub doubt : HasNoDoubtBelow H R
  pub below : HasSettledBelow H settled R

module _ (P : Present) (H : Stamp) (settled : List TxnId) (listed : (T : Txn) → Contains P.txns T → T.status ≢ status.InDoubt → Contains settled T.id) where
  arrived : (R : Present) (T : Txn) → Stays P R H settled → IsHistory R → H.0 ≤ T.start.0 → IsAcceptable R (edit.Arrive T) → Stays P (after (edit.Arrive T) R) H settled
  unfolding after
  arrived R T s h late a = let step = late_edit R H settled (edit.Arrive T) h s.doubt s.below late a in record {
    initial = s.initial;
    stays = λ U at known. push_keeps R.txns T U (s.stays U at known);
    new = λ U c. elim (push_cases R.txns T U c) [ inl d ↦ s.new U d | inr e ↦ inr (subst (λ V. H.0 ≤ V.start.0) e late) ];
    doubt = step.doubt;
    below = step.kept;
  }

  was_resolved : (R : Present) (u : TxnId) (o : Outcome) → Stays P R H settled → IsHistory R → IsAcceptable R (edit.Resolve u o) → Stays P (after (edit.Resolve u o) R) H settled
  unfolding after
  was_resolved R u o s h a =
      let step = late_edit R H settled (edit.Resolve u o) h s.doubt s.below tt a in
      let asked = ((acceptance_exact R (edit.Resolve u o) h).0 a).0 in
      let it : (T : Txn) → Contains R.txns T → T.id ≡ u → T.status ≡ status.InDoubt = λ T c e.
      ap (λ V. V.status) (same_named (λ V. V.id) R.txns h.names T asked.0 c asked.1 (e ∙ sym asked.2)) ∙ asked.3 in
      record {
        initial = s.initial;
        stays = λ T at known.
            (let c = s.stays T at known in
            let m = Contains-map (resolved u o) R.txns T c in
            elim (resolved_cases u o T) [
              | inl r ↦ absurd (known (it T c r.0))
              | inr r ↦ subst (Contains (map (resolved u o) R.txns)) r.1 m
            ]);
        new = λ U c.
            (let m = Contains-from_map (resolved u o) R.txns U c in
            elim (resolved_cases u o m.0) [
              | inl r ↦ inr (subst (λ V. H.0 ≤ V.start.0) (sym r.1 ∙ m.2) (elim (cases_lt m.0.start.0 H.0) [
                | inl less ↦ absurd (s.doubt m.0 m.1 less (it m.0 m.1 r.0))
                | inr more ↦ more
              ]))
              | inr r ↦ subst (λ V. Contains P.txns V ⊎ (H.0 ≤ V.start.0)) (sym r.1 ∙ m.2) (s.new m.0 m.1)
            ]);
        doubt = step.doubt;
        below = step.kept;
      }

  withdrawn : (R : Present) (u : TxnId) → Stays P R H settled → IsHistory R → (Contains settled u → ⊥) → IsAcceptable R (edit.Withdraw u) → Stays P (after (edit.Withdraw u) R) H settled
  unfolding after
  withdrawn R u s h late a = let step = late_edit R H settled (edit.Withdraw u) h s.doubt s.below late a in record {
    initial = s.initial;
    stays = λ T at known. Contains-filter (is_another u) R.txns T (s.stays T at known) (another T (listed T at known) (same_id T.id u) refl);
    new = λ U c. s.new U (Contains-from_filter (is_another u) R.txns U c).0;
    doubt = step.doubt;
    below = step.kept;
  }
    where
      another : (T : Txn) → Contains settled T.id → (b : Bool) → same_id T.id u ≡ b → not b ≡ true
      another T c true e = absurd (late (subst (Contains settled) (same_id_is T.id u e) c))
      another T c false e = refl

  pub stays_after : (R : Present) (e : Edit) → Stays P R H settled → IsHistory R → IsLate H settled e → IsAcceptable R e → Stays P (after e R) H settled
  stays_after R (edit.Arrive T) s h late a = arrived R T s h late a
  stays_after R (edit.Resolve u o) s h late a = was_resolved R u o s h a
  stays_after R (edit.Withdraw u) s h late a = withdrawn R u s h late a
  stays_after R (edit.SetUp x v) s h late a = absurd late

  pub stays_through : (J more : List Edit) → Stays P (present J) H settled → IsAccepted (J ++ more) → AreLate H settled more → Stays P (present (J ++ more)) H settled
  stays_through J [] s a late = subst (λ K. Stays P (present K) H settled) (sym (append-nil J)) s
  stays_through J (e ∷ more) s a late =
      let split = append_assoc J (e ∷ []) more in
      let step = stays_after (present J) e s (present_history J (accepted_begins J (e ∷ more) a)) (late e (here e more)) (a J e more refl) in
      let pushed = subst (λ R. Stays P R H settled) (sym (present_push J e)) step in
      subst (λ K. Stays P (present K) H settled) split (stays_through (J ++ e ∷ []) more pushed (subst IsAccepted (sym split) a) (λ d c. late d (there e more d c)))

-- ---- a read that started below the horizon

-- a read that had no known writer
abbrev HasNoWriter : OnKey → Option Value → Type 0
HasNoWriter Q v = IsSource Q v source.Missing ⊎ ((u : TxnId) × IsSource Q v (source.InDoubt u))

module _ (H : Stamp) (Q R : OnKey) (g : IsOfHistory Q) (h : IsOfHistory R) (initial : Q.initial ≡ R.initial) (new : (U : Part) → Contains R.parts U → Contains Q.parts U ⊎ (H.0 ≤ U.start.0)) where
  module _ (T : Part) (i : ℕ) (v : Option Value) (below : T.start.0 < H.0) (unwritten : HasNoWriter Q v) where
    not_initial : v ≡ R.initial → ⊥
    not_initial e = elim unwritten [
      | inl is ↦ is.0 (e ∙ sym initial)
      | inr d ↦ (let is = d.1 in g.initial is.0 is.1 (initial ∙ sym e ∙ is.2) is.3.part is.3.writes)
    ]

    -- who committed a value that had no known writer started at the horizon or later
    not_known : (w : Value) (U : Part) (c : Stamp) → v ≡ Some w → Contains Q.parts U → Writes U w → U.status ≡ status.Committed c → ⊥
    not_known w U c e at a s = elim unwritten [
      | inl is ↦ is.1 w U e at a
      | inr d ↦
          (let is = d.1 in
          let one = one_writer Q g U is.1 w at is.3.part a (subst (Writes is.1) (same_some (sym is.2 ∙ e)) is.3.writes) in
          let wrong = sym s ∙ ap (λ V. V.status) one ∙ is.4 in
          cc)
    ]

    -- it has a finding
    judged : (s : Source) → IsSource R v s → (k : Kind) × (judged_by_source (sight_of R T i v) s ≡ Some k)
    unfolding sight_of
    judged source.Initial is = absurd (not_initial is)
    judged source.Missing is = (kind.Unknown T.id i v, refl)
    judged (source.InDoubt u) is = (kind.Doubt T.id i v u, refl)
    judged (source.Aborted u) is = (kind.Aborted T.id i v u, refl)
    judged (source.Earlier u) is = (kind.Intermediate T.id i v u, refl)
    judged (source.Installed u c) is =
        let U = is.1 in
        let a = is.3 in
        let past : T.start.0 < c.0 = elim (new U a.part) [
          | inl old ↦ absurd (not_known is.0 U c is.2 old a.writes is.4)
          | inr late ↦ (let up = h.forward U c a.part (ap commit_of is.4) in omega arith)
        ] in
        (kind.Future T.id i v u, ap (λ b. cond b (Some (kind.Future T.id i v u)) (judged_by_next (sight_of R T i v) (missed_at R.parts T.start (source_of R v)))) (lt-ltb T.start.0 c.0 past))

    found : own_value T i ≡ None → writes_later T i v ≡ false → (k : Kind) × (kind_of (sight_of R T i v) ≡ Some k)
    unfolding kind_of sight_of
    found own later =
        let j = judged (source_of R v) (source_is R h v) in
        (j.0, ap (λ o. judged_by_own (sight_of R T i v) o (writes_later T i v)) own ∙ ap (λ b. judged_by_own (sight_of R T i v) None b) later ∙ j.1)

-- ---- what unknown and doubt come from

-- such a read has no own value, and no known writer
record IsOpen (Q : OnKey) (T : Part) (i : ℕ) (v : Option Value) : Type 0 where
  own : own_value T i ≡ None
  later : writes_later T i v ≡ false
  writer : HasNoWriter Q v

module _ (Q : OnKey) (g : IsOfHistory Q) (T : Part) (i : ℕ) (v : Option Value) where
  open_source : (s : Source) → IsSource Q v s → (k : Kind) → judged_by_source (sight_of Q T i v) s ≡ Some k → number k ≤ 2 → HasNoWriter Q v
  unfolding sight_of
  open_source source.Missing is k e le = inl is
  open_source (source.InDoubt u) is k e le = inr (u, is)
  open_source (source.Aborted u) is k e le = let n = ap number (same_some e) in absurd (omega arith)
  open_source (source.Earlier u) is k e le = let n = ap number (same_some e) in absurd (omega arith)
  open_source source.Initial is k e le = by (missed_at Q.parts T.start (source_of Q v)) e
    where
      by : (o : Option Installer) → judged_by_next (sight_of Q T i v) o ≡ Some k → HasNoWriter Q v
      by None f = cc
      by (Some n) f = let m = ap number (same_some f) in absurd (omega arith)
  open_source (source.Installed u c) is k e le = by (nat_lt T.start.0 c.0) (missed_at Q.parts T.start (source_of Q v)) e
    where
      by : (b : Bool) (o : Option Installer) → cond b (Some (kind.Future T.id i v u)) (judged_by_next (sight_of Q T i v) o) ≡ Some k → HasNoWriter Q v
      by true o f = let m = ap number (same_some f) in absurd (omega arith)
      by false None f = cc
      by false (Some n) f = let m = ap number (same_some f) in absurd (omega arith)

  open_own : (o : Option Value) (later : Bool) → own_value T i ≡ o → writes_later T i v ≡ later → (k : Kind) → judged_by_own (sight_of Q T i v) o later ≡ Some k → number k ≤ 2 → IsOpen Q T i v
  unfolding sight_of
  open_own (Some w) later own also k e le = by (option_eq same_value v (Some w)) e
    where
      by : (b : Bool) → cond b None (Some (kind.Own T.id i v (Some w))) ≡ Some k → IsOpen Q T i v
      by true f = cc
      by false f = let m = ap number (same_some f) in absurd (omega arith)
  open_own None true own also k e le = let m = ap number (same_some e) in absurd (omega arith)
  open_own None false own also k e le = record { own = own; later = also; writer = open_source (source_of Q v) (source_is Q g v) k e le }

  open_read : (k : Kind) → kind_of (sight_of Q T i v) ≡ Some k → number k ≤ 2 → IsOpen Q T i v
  unfolding kind_of sight_of
  open_read k e le = open_own (own_value T i) (writes_later T i v) refl refl k e le

-- ---- what a finding is of

pub subject_of : (k : Kind) (t : TxnId) (i : ℕ) → read_of k ≡ Some (t, i) → subject k ≡ (t, Some i)
subject_of (kind.Unknown u j v) t i e = ap (λ p. (p.0, Some p.1)) (same_some e)
subject_of (kind.Doubt u j v w) t i e = ap (λ p. (p.0, Some p.1)) (same_some e)
subject_of (kind.Own u j v w) t i e = ap (λ p. (p.0, Some p.1)) (same_some e)
subject_of (kind.Aborted u j v w) t i e = ap (λ p. (p.0, Some p.1)) (same_some e)
subject_of (kind.Intermediate u j v w) t i e = ap (λ p. (p.0, Some p.1)) (same_some e)
subject_of (kind.Future u j v w) t i e = ap (λ p. (p.0, Some p.1)) (same_some e)
subject_of (kind.Stale u j v w) t i e = ap (λ p. (p.0, Some p.1)) (same_some e)
subject_of (kind.Overlap a b) t i e = cc

subject_again : (k l : Kind) → TellsAgain k l → (subject l ≡ subject k) × (number l ≡ number k)
subject_again (kind.Stale t i v n) l e = (ap subject e.1, ap number e.1)
subject_again (kind.Overlap a b) l e = (ap subject e.1, ap number e.1)
subject_again (kind.Unknown t i v) l e = (ap subject e, ap number e)
subject_again (kind.Doubt t i v u) l e = (ap subject e, ap number e)
subject_again (kind.Own t i v w) l e = (ap subject e, ap number e)
subject_again (kind.Aborted t i v u) l e = (ap subject e, ap number e)
subject_again (kind.Intermediate t i v u) l e = (ap subject e, ap number e)
subject_again (kind.Future t i v u) l e = (ap subject e, ap number e)

-- what is told as unknown is a violation
pub not_told : (k j : Kind) → number k ≤ 2 → IsToldAs k j → ⊥
not_told (kind.Unknown t i v) j le told = told
not_told (kind.Doubt t i v u) j le told = told
not_told (kind.Own t i v w) j le told = told
not_told (kind.Aborted t i v u) j le told = omega arith
not_told (kind.Intermediate t i v u) j le told = omega arith
not_told (kind.Future t i v u) j le told = told
not_told (kind.Stale t i v n) j le told = omega arith
not_told (kind.Overlap a b) j le told = told

-- the reader of what is below started below
starts_below : (P : Present) (H : Stamp) (k : Kind) (t : TxnId) (i : ℕ) → number k ≤ 2 → read_of k ≡ Some (t, i) → IsOfBelow P H k → StartsBelow P H t
starts_below P H (kind.Unknown u j v) t i le e s = subst (StartsBelow P H) (ap (λ p. p.0) (same_some e)) s
starts_below P H (kind.Doubt u j v w) t i le e s = subst (StartsBelow P H) (ap (λ p. p.0) (same_some e)) s
starts_below P H (kind.Own u j v w) t i le e s = absurd (omega arith)
starts_below P H (kind.Aborted u j v w) t i le e s = absurd (omega arith)
starts_below P H (kind.Intermediate u j v w) t i le e s = absurd (omega arith)
starts_below P H (kind.Future u j v w) t i le e s = absurd (omega arith)
starts_below P H (kind.Stale u j v w) t i le e s = absurd (omega arith)
starts_below P H (kind.Overlap a b) t i le e s = absurd (omega arith)

-- ---- the law

-- k is found again of R, of the same
abbrev IsKept : Present → List ℕ → Kind → Type 0
IsKept R x k = (j : Kind) × Finds R x j × (subject j ≡ subject k) × (2 < number k → 2 < number j)

module _ (P R : Present) (H : Stamp) (settled : List TxnId) (h : IsHistory P) (later : IsHistory R) (s : Stays P R H settled) (x : List ℕ) where
  abbrev Q : OnKey
  Q = on_key x P

  abbrev S : OnKey
  S = on_key x R

  pub part_stays : (T : Part) → Contains Q.parts T → T.status ≢ status.InDoubt → Contains S.parts T
  part_stays T c known = let of = (parts_are x P.txns T).0 c in (parts_are x R.txns T).1 (of.0, s.stays of.0 of.1 (λ d. known (of.2.status ∙ d)), of.2)

  pub part_new : (U : Part) → Contains S.parts U → Contains Q.parts U ⊎ (H.0 ≤ U.start.0)
  part_new U c = let of = (parts_are x R.txns U).0 c in elim (s.new of.0 of.1) [
    | inl old ↦ inl ((parts_are x P.txns U).1 (of.0, old, of.2))
    | inr late ↦ inr (subst (λ t. H.0 ≤ t.0) (sym of.2.start) late)
  ]

  pub same_initial : Q.initial ≡ S.initial
  same_initial = ap (set_up_value x) s.initial

  pub violation_kept : (k : Kind) → IsFoundOn cases Q k → 2 < number k → IsKept R x k
  violation_kept k found less =
      let again = found_again Q S (key_of_history P x h) (key_of_history R x later) same_initial part_stays k found less in
      let same = subject_again k again.0 again.2 in
      let number = same.1 in
      (again.0, (findings_exact R later).complete (record { key = x; kind = again.0 }) again.1, same.0, λ more. omega arith)

  open_kept : (k : Kind) → IsFoundOn cases Q k → number k ≤ 2 → IsOfBelow P H k → IsKept R x k
  unfolding sight_of
  open_kept k (inr p) le below = let n = ap number p.is in absurd (omega arith)
  open_kept k (inl r) le below =
      let T = r.part in
      let i = r.place in
      let v = r.value in
      let g = key_of_history P x h in
      let same = same_sight Q g T i v r.sight r.seen in
      let e = ap kind_of (sym same) ∙ r.judged in
      let was = open_read Q g T i v k e le in
      let named = kind_read (sight_of Q T i v) k e in
      let start = starts_below P H k T.id i le named below in
      let of = (parts_are x P.txns T).0 r.returned.part in
      let one = same_named (λ V. V.id) P.txns h.names of.0 start.0 of.1 start.1 (sym of.2.id ∙ sym start.2) in
      let less : T.start.0 < H.0 = subst (λ t. t.0 < H.0) (ap (λ V. V.start) (sym one) ∙ sym of.2.start) start.3 in
      let again = found H Q S g (key_of_history R x later) same_initial part_new T i v less was.writer was.own was.later in
      let committed = r.returned.committed in
      let read : IsRead S T i v = record {
        part = part_stays T r.returned.part (λ d. let wrong = sym committed.1 ∙ d in cc);
        committed = committed;
        returned = r.returned.returned;
      } in
      let at = kind_read (sight_of S T i v) again.0 again.1 in (
        again.0,
        (findings_exact R later).complete (record { key = x; kind = again.0 })
            (inl (record { part = T; place = i; value = v; sight = sight_of S T i v; returned = read; seen = sight_is S (key_of_history R x later) T i v; judged = again.1 })),
        subject_of again.0 T.id i at ∙ sym (subject_of k T.id i named),
        λ more. absurd (omega arith),
      )

-- what late edits leave, from the horizon on
pub stays_on : (edits more : List Edit) (H : Stamp) (settled : List TxnId) → IsAccepted (edits ++ more) → HasNoDoubtBelow H (present edits) → ListsSettled (present edits) settled → AreLate H settled more
    → Stays (present edits) (present (edits ++ more)) H settled
stays_on edits more H settled a doubt listed late =
    let P = present edits in
    let known : (T : Txn) → Contains P.txns T → T.status ≢ status.InDoubt → Contains settled T.id = λ T c d. (listed T.id).1 (T, c, refl, d) in
    let start : Stays P P H settled = record {
      initial = refl;
      stays = λ T c d. c;
      new = λ U c. inl c;
      doubt = doubt;
      below = λ T c less. known T c (doubt T c less);
    } in
    stays_through P H settled known edits more start a late

pub finals : FinalsStay
finals edits more H settled x k a doubt listed late final =
    let P = present edits in
    let R = present (edits ++ more) in
    let h = present_history edits (accepted_begins edits more a) in
    let later = present_history (edits ++ more) a in
    let s = stays_on edits more H settled a doubt listed late in
    let found = (findings_exact P h).sound (record { key = x; kind = k }) final.0 in
    elim (cases_lt 2 (number k)) [
      | inl less ↦ violation_kept P R H settled h later s x k found less
      | inr le ↦ elim ((nothing_lost P H h).kept x k final.0) [
        | inl same ↦ absurd (final.1 same)
        | inr or ↦ elim or [
          | inl below ↦ open_kept P R H settled h later s x k found le below
          | inr t ↦ absurd (not_told k t.0 le t.1)
        ]
      ]
    ]
