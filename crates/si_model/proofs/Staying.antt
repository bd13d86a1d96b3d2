-- A violation stays one through arrivals, resolutions and set-ups of other keys.
use Rattle.std.proofs.Common.{◌≡◌, ◌≢◌, inl, inr, ℕ, ◌<◌, Bool, true, false, nat_lt, List, [], ◌∷◌, ◌++◌, map, Option, Some, None, refl, sym, ap, subst, ◌∙◌, arith, cond, append_assoc, append-nil}
use Rattle.std.specs.List.{Contains}
use Rattle.std.proofs.lemmas.Bool.{ltb-true, lt-ltb, leb-false}
use Rattle.std.specs.Option.{option_eq}
use Rattle.si_model.specs.declared.numbers.TxnId.{TxnId}
use Rattle.si_model.specs.declared.numbers.Stamp.{Stamp}
use Rattle.si_model.specs.declared.numbers.Value.{Value}
use Rattle.si_model.specs.declared.transactions.Status.{Status}
use Rattle.si_model.specs.declared.transactions.Status.TheVariants as status
use Rattle.si_model.specs.declared.transactions.Txn.{Txn}
use Rattle.si_model.specs.declared.edits.Edit.{Edit}
use Rattle.si_model.specs.declared.edits.Edit.TheVariants as edit
use Rattle.si_model.specs.declared.parts.Part.{Part}
use Rattle.si_model.specs.declared.parts.OnKey.{OnKey}
use Rattle.si_model.specs.declared.sights.Installer.{Installer}
use Rattle.si_model.specs.declared.sights.VersionId.{VersionId}
use Rattle.si_model.specs.declared.sights.VersionId.TheVariants as version
use Rattle.si_model.specs.declared.sights.Source.{Source}
use Rattle.si_model.specs.declared.sights.Source.TheVariants as source
use Rattle.si_model.specs.declared.kinds.Kind.{Kind}
use Rattle.si_model.specs.declared.kinds.Kind.TheVariants as kind
use Rattle.si_model.specs.Operations.{same_value, same_key}
use Rattle.si_model.specs.Parts.{Present, part, on_key}
use Rattle.si_model.specs.Versions.{IsInstaller, IsNextIfAny, next_after}
use Rattle.si_model.specs.Reads.{IsRead, IsWriter, IsSource, own_value, writes_later, source_of, sight_of, if_before, missed_at, judged_by_next, judged_by_source, judged_by_own, kind_of}
use Rattle.si_model.specs.Order.{number}
use Rattle.si_model.specs.Findings.{cases, IsOfRead, IsOfPair, IsFoundOn}
use Rattle.si_model.specs.Form.{concerns_form}
use Rattle.si_model.specs.History.{IsHistory, IsOfHistory}
use Rattle.si_model.specs.Edits.{same_id, status_after, IsAcceptable, resolved, after}
use Rattle.si_model.specs.Journals.{present, IsAccepted}
use Rattle.si_model.specs.KeyEdits.{perhaps_arrived_on, set_up_on, edited_on}
use Rattle.si_model.specs.Laws.{TellsAgain, WithdrawNothing, LeaveUnset, ViolationsStay, PhenomenaStay}
use Rattle.si_lists.proofs.Members.{same_some, here, there, Contains-map}
use Rattle.si_lists.proofs.Names.{same_named}
use Rattle.si_lists.proofs.Pushes.{push_keeps}
use Rattle.si_model.proofs.Equalities.{same_id_is, same_key_is}
use Rattle.si_model.proofs.KeyParts.{parts_are}
use Rattle.si_model.proofs.Histories.{key_of_history}
use Rattle.si_model.proofs.NextVersions.{next_is, before_next}
use Rattle.si_model.proofs.Sources.{source_is, same_source, sight_is, same_sight}
use Rattle.si_model.proofs.Exact.{findings_exact}
use Rattle.si_model.proofs.Acceptance.{present_push, accepted_begins}
use Rattle.si_model.proofs.PresentHistories.{acceptance_exact, present_history}
use Rattle.si_model.proofs.KeyEditing.{key_edits}

-- ---- one key on which transactions arrive and are resolved

-- a source that no arrival and no resolution changes
abbrev IsSettled : Source → Type 0
IsSettled source.Initial = Unit {0}
IsSettled source.Missing = ⊥
IsSettled (source.InDoubt u) = ⊥
IsSettled (source.Aborted u) = Unit {0}
IsSettled (source.Earlier u) = Unit {0}
IsSettled (source.Installed u c) = Unit {0}

known : (s : Status) (c : Stamp) → s ≡ status.Committed c → s ≢ status.InDoubt
known s c e d = let wrong = sym e ∙ d in cc

known_aborted : (s : Status) → s ≡ status.Aborted → s ≢ status.InDoubt
known_aborted s e d = let wrong = sym e ∙ d in cc

-- what is on Q and not in doubt is on R
module _ (Q R : OnKey) (g : IsOfHistory Q) (h : IsOfHistory R) (initial : Q.initial ≡ R.initial) (to : (T : Part) → Contains Q.parts T → T.status ≢ status.InDoubt → Contains R.parts T) where
  -- k is told again on R
  IsAgain : Kind → Type 0
  IsAgain k = (l : Kind) × IsFoundOn cases R l × TellsAgain k l

  installer_stays : (n : Installer) → IsInstaller Q n → IsInstaller R n
  installer_stays n i = (i.0, to i.0 i.1 (known i.0.status n.commit i.2.committed), i.2)

  writer_stays : (v : Value) (u : TxnId) (T : Part) → T.status ≢ status.InDoubt → IsWriter Q v u T → IsWriter R v u T
  writer_stays v u T known w = record { part = to T w.part known; id = w.id; writes = w.writes }

  source_stays : (v : Option Value) (s : Source) → IsSettled s → IsSource Q v s → IsSource R v s
  source_stays v source.Initial t i = i ∙ initial
  source_stays v source.Missing t i = absurd t
  source_stays v (source.InDoubt u) t i = absurd t
  source_stays v (source.Aborted u) t i = (i.0, i.1, i.2, writer_stays i.0 u i.1 (known_aborted i.1.status i.4) i.3, i.4)
  source_stays v (source.Earlier u) t i = (i.0, i.1, i.2, writer_stays i.0 u i.1 (known i.1.status i.4.0 i.4.1) i.3, i.4, i.5)
  source_stays v (source.Installed u c) t i = (i.0, i.1, i.2, writer_stays i.0 u i.1 (known i.1.status c i.4) i.3, i.4, i.5)

  -- where a version was missed, one is missed still: that one, or a nearer one
  missed_stays : (start : Stamp) (a : VersionId) (n : Installer) → if_before start (next_after Q.parts a) ≡ Some n → (m : Installer) × (if_before start (next_after R.parts a) ≡ Some m)
  missed_stays start a n e = by (next_after Q.parts a) (next_is Q a) e
    where
      by : (o : Option Installer) → IsNextIfAny Q a o → if_before start o ≡ Some n → (m : Installer) × (if_before start (next_after R.parts a) ≡ Some m)
      by None is f = cc
      by (Some b) is f = tested (nat_lt b.commit.0 start.0) refl f
        where
          nearer : b.commit.0 < start.0 → (o : Option Installer) → IsNextIfAny R a o → (m : Installer) × (if_before start o ≡ Some m)
          nearer less None none = absurd (none b (installer_stays b is.installs) is.after)
          nearer less (Some d) next =
              let first = next.first b (installer_stays b is.installs) is.after in
              let before : d.commit.0 < start.0 = omega arith in
              (d, ap (λ t. cond t (Some d) None) (lt-ltb d.commit.0 start.0 before))

          tested : (t : Bool) → nat_lt b.commit.0 start.0 ≡ t → cond t (Some b) None ≡ Some n → (m : Installer) × (if_before start (next_after R.parts a) ≡ Some m)
          tested true t f = nearer (ltb-true b.commit.0 start.0 t) (next_after R.parts a) (next_is R a)
          tested false t f = cc

  -- ---- a read

  module _ (T : Part) (i : ℕ) (v : Option Value) (r : IsRead Q T i v) where
    read_stays : IsRead R T i v
    read_stays = record { part = to T r.part (known T.status r.committed.0 r.committed.1); committed = r.committed; returned = r.returned }

    -- what the read is judged to be on R
    judged : (l : Kind) → kind_of (sight_of R T i v) ≡ Some l → IsFoundOn cases R l
    judged l e = inl (record { part = T; place = i; value = v; sight = sight_of R T i v; returned = read_stays; seen = sight_is R h T i v; judged = e })

    by_own : (o : Option Value) (later : Bool) → own_value T i ≡ o → writes_later T i v ≡ later → kind_of (sight_of R T i v) ≡ judged_by_own (sight_of R T i v) o later
    unfolding kind_of sight_of
    by_own o later own also = ap (λ u. judged_by_own (sight_of R T i v) u (writes_later T i v)) own ∙ ap (λ b. judged_by_own (sight_of R T i v) o b) also

    by_source : (from : Source) → own_value T i ≡ None → writes_later T i v ≡ false → source_of R v ≡ from → kind_of (sight_of R T i v) ≡ judged_by_source (sight_of R T i v) from
    unfolding sight_of
    by_source from own also e = by_own None false own also ∙ ap (judged_by_source (sight_of R T i v)) e

    stale_again : (a : VersionId) (k : Kind) → judged_by_next (sight_of Q T i v) (if_before T.start (next_after Q.parts a)) ≡ Some k
        → kind_of (sight_of R T i v) ≡ judged_by_next (sight_of R T i v) (if_before T.start (next_after R.parts a)) → IsAgain k
    unfolding sight_of IsAgain
    stale_again a k e is = by (if_before T.start (next_after Q.parts a)) refl e
      where
        by : (o : Option Installer) → if_before T.start (next_after Q.parts a) ≡ o → judged_by_next (sight_of Q T i v) o ≡ Some k → IsAgain k
        by None s f = cc
        by (Some n) s f =
            let m = missed_stays T.start a n s in
            let l : Kind = kind.Stale T.id i v m.0.txn in
            subst IsAgain (same_some f) (l, judged l (is ∙ ap (judged_by_next (sight_of R T i v)) m.1), (m.0.txn, refl))

    still : (from : Source) → IsSettled from → source_of Q v ≡ from → source_of R v ≡ from
    still from t e = sym (same_source R h v from (source_stays v from t (subst (IsSource Q v) e (source_is Q g v))))

    -- the same kind again
    same_again : (k : Kind) → kind_of (sight_of R T i v) ≡ Some k → TellsAgain k k → IsAgain k
    unfolding IsAgain
    same_again k e same = (k, judged k e, same)

    -- a read that missed nothing of its own, by its source
    source_again : (from : Source) → own_value T i ≡ None → writes_later T i v ≡ false → source_of Q v ≡ from → (k : Kind) → judged_by_source (sight_of Q T i v) from ≡ Some k → 2 < number k → IsAgain k
    unfolding sight_of missed_at
    source_again source.Missing own also s k e less = let n = ap number (same_some e) in absurd (omega arith)
    source_again (source.InDoubt u) own also s k e less = let n = ap number (same_some e) in absurd (omega arith)
    source_again (source.Aborted u) own also s k e less =
        subst IsAgain (same_some e) (same_again (kind.Aborted T.id i v u) (by_source (source.Aborted u) own also (still (source.Aborted u) tt s)) refl)
    source_again (source.Earlier u) own also s k e less =
        subst IsAgain (same_some e) (same_again (kind.Intermediate T.id i v u) (by_source (source.Earlier u) own also (still (source.Earlier u) tt s)) refl)
    source_again source.Initial own also s k e less =
        let t = still source.Initial tt s in
        stale_again version.Initial k (sym (ap (λ o. judged_by_next (sight_of Q T i v) (missed_at Q.parts T.start o)) s) ∙ e)
        (by_source source.Initial own also t ∙ ap (λ o. judged_by_next (sight_of R T i v) (missed_at R.parts T.start o)) t)
    source_again (source.Installed u c) own also s k e less = by (nat_lt T.start.0 c.0) refl e
      where
        t : source_of R v ≡ source.Installed u c
        t = still (source.Installed u c) tt s

        is : kind_of (sight_of R T i v) ≡ judged_by_source (sight_of R T i v) (source.Installed u c)
        is = by_source (source.Installed u c) own also t

        by : (b : Bool) → nat_lt T.start.0 c.0 ≡ b → cond b (Some (kind.Future T.id i v u)) (judged_by_next (sight_of Q T i v) (missed_at Q.parts T.start (source_of Q v))) ≡ Some k → IsAgain k
        by true l f =
            let future = is ∙ ap (λ b. cond b (Some (kind.Future T.id i v u)) (judged_by_next (sight_of R T i v) (missed_at R.parts T.start (source_of R v)))) l in
            subst IsAgain (same_some f) (same_again (kind.Future T.id i v u) future refl)
        by false l f =
            let next = is ∙ ap (λ b. cond b (Some (kind.Future T.id i v u)) (judged_by_next (sight_of R T i v) (missed_at R.parts T.start (source_of R v)))) l in
            stale_again (version.Installed c) k (sym (ap (λ o. judged_by_next (sight_of Q T i v) (missed_at Q.parts T.start o)) s) ∙ f)
            (next ∙ ap (λ o. judged_by_next (sight_of R T i v) (missed_at R.parts T.start o)) t)

    own_again : (o : Option Value) (later : Bool) → own_value T i ≡ o → writes_later T i v ≡ later → (k : Kind) → judged_by_own (sight_of Q T i v) o later ≡ Some k → 2 < number k → IsAgain k
    unfolding sight_of
    own_again (Some w) later own also k e less = by (option_eq same_value v (Some w)) refl e
      where
        by : (b : Bool) → option_eq same_value v (Some w) ≡ b → cond b None (Some (kind.Own T.id i v (Some w))) ≡ Some k → IsAgain k
        by true t f = cc
        by false t f = subst IsAgain (same_some f) (same_again (kind.Own T.id i v (Some w)) (by_own (Some w) later own also ∙ ap (λ b. cond b None (Some (kind.Own T.id i v (Some w)))) t) refl)
    own_again None true own also k e less = subst IsAgain (same_some e) (same_again (kind.Own T.id i v None) (by_own None true own also) refl)
    own_again None false own also k e less = source_again (source_of Q v) own also refl k e less

  read_again : (k : Kind) → IsOfRead cases Q k → 2 < number k → IsAgain k
  unfolding kind_of sight_of
  read_again k r less =
      let same = same_sight Q g r.part r.place r.value r.sight r.seen in
      own_again r.part r.place r.value r.returned (own_value r.part r.place) (writes_later r.part r.place r.value) refl refl k (ap kind_of (sym same) ∙ r.judged) less

  -- ---- two neighbouring versions

  pair_again : (k : Kind) → IsOfPair cases Q k → IsAgain k
  unfolding IsAgain
  pair_again k p =
      let n = p.second in
      let at = installer_stays n p.next.installs in
      let overlap = ltb-true n.start.0 p.first.commit.0 p.judged in
      let b = before_next R n at n.commit.0 p.first (installer_stays p.first p.installs) p.next.after (omega arith) in
      let past = b.3 in
      let l : Kind = kind.Overlap b.0.txn n.txn in
      subst IsAgain (sym p.is) (l, inr (record { first = b.0; second = n; installs = b.1; next = b.2; judged = lt-ltb n.start.0 b.0.commit.0 (omega arith); is = refl }), (b.0.txn, refl))

  pub found_again : (k : Kind) → IsFoundOn cases Q k → 2 < number k → (l : Kind) × IsFoundOn cases R l × TellsAgain k l
  unfolding IsAgain
  found_again k found less = elim found [ inl r ↦ read_again k r less | inr p ↦ pair_again k p ]

-- ---- what accepted edits leave present of what was

-- on the key x the initial version stays, and so does each transaction that isn't in doubt
abbrev Keeps : List ℕ → Present → Present → Type 0
Keeps x P R = ((on_key x P).initial ≡ (on_key x R).initial) × ((T : Txn) → Contains P.txns T → T.status ≢ status.InDoubt → Contains R.txns T)

-- the edit withdraws nothing and doesn't set up the key
abbrev LetsStand : List ℕ → Edit → Type 0
LetsStand x e = ((u : TxnId) → e ≡ edit.Withdraw u → ⊥) × ((v : Value) → e ≡ edit.SetUp x v → ⊥)

edit_keeps : (x : List ℕ) (P : Present) (e : Edit) → IsHistory P → IsAcceptable P e → LetsStand x e → Keeps x P (after e P)
unfolding after edited_on
edit_keeps x P (edit.Arrive T) h a stands = (arrived (part x T) ∙ ap (λ Q. Q.initial) (sym (key_edits P (edit.Arrive T) x a)), λ U at known. push_keeps P.txns T U at)
  where
    arrived : (o : Option Part) → (on_key x P).initial ≡ (perhaps_arrived_on o (on_key x P)).initial
    arrived None = refl
    arrived (Some Q) = refl
edit_keeps x P (edit.Resolve u o) h a stands = (refl, λ U at known. subst (Contains (map (resolved u o) P.txns)) (unchanged U at known) (Contains-map (resolved u o) P.txns U at))
  where
    -- the one that is resolved is in doubt
    unchanged : (U : Txn) → Contains P.txns U → U.status ≢ status.InDoubt → resolved u o U ≡ U
    unchanged U at known = by (same_id U.id u) refl
      where
        by : (b : Bool) → same_id U.id u ≡ b → cond b (record U { status = status_after o }) U ≡ U
        by true t =
            let asks = ((acceptance_exact P (edit.Resolve u o) h).0 a).0 in
            let same = same_named (λ V. V.id) P.txns h.names U asks.0 at asks.1 (same_id_is U.id u t ∙ sym asks.2) in
            absurd (known (ap (λ V. V.status) same ∙ asks.3))
        by false t = refl
edit_keeps x P (edit.Withdraw u) h a stands = absurd (stands.0 u refl)
edit_keeps x P (edit.SetUp y v) h a stands = (by (same_key y x) refl ∙ ap (λ Q. Q.initial) (sym (key_edits P (edit.SetUp y v) x a)), λ U at known. at)
  where
    by : (b : Bool) → same_key y x ≡ b → (on_key x P).initial ≡ (cond (same_key y x) (set_up_on v (on_key x P)) (on_key x P)).initial
    by true t = absurd (stands.1 v (ap (λ z. edit.SetUp z v) (same_key_is y x t)))
    by false t = ap (λ b. (cond b (set_up_on v (on_key x P)) (on_key x P)).initial) (sym t)

edits_keep : (x : List ℕ) (edits more : List Edit) → IsAccepted (edits ++ more) → WithdrawNothing more → LeaveUnset x more → Keeps x (present edits) (present (edits ++ more))
edits_keep x edits [] a nothing unset = subst (λ J. Keeps x (present edits) (present J)) (sym (append-nil edits)) (refl, λ T at known. at)
edits_keep x edits (e ∷ more) a nothing unset =
    let split = append_assoc edits (e ∷ []) more in
    let step = edit_keeps x (present edits) e (present_history edits (accepted_begins edits (e ∷ more) a)) (a edits e more refl)
    (λ u s. nothing u (subst (Contains (e ∷ more)) s (here e more)), λ v s. unset v (subst (Contains (e ∷ more)) s (here e more))) in
    let pushed = subst (Keeps x (present edits)) (sym (present_push edits e)) step in
    let rest = edits_keep x (edits ++ e ∷ []) more (subst IsAccepted (sym split) a) (λ u at. nothing u (there e more (edit.Withdraw u) at)) (λ v at. unset v (there e more (edit.SetUp x v) at)) in
    let all = subst (λ J. Keeps x (present (edits ++ e ∷ [])) (present J)) split rest in
    (pushed.0 ∙ all.0, λ T at known. all.1 T (pushed.1 T at known) known)

-- ---- the laws

pub violations_stay : ViolationsStay
violations_stay edits more f a nothing unset at less =
    let x = f.key in
    let P = present edits in
    let R = present (edits ++ more) in
    let g = present_history edits (accepted_begins edits more a) in
    let h = present_history (edits ++ more) a in
    let keeps = edits_keep x edits more a nothing unset in
    let again = found_again (on_key x P) (on_key x R) (key_of_history P x g) (key_of_history R x h) keeps.0
    (λ T c known. let of = (parts_are x P.txns T).0 c in
    (parts_are x R.txns T).1 (of.0, keeps.1 of.0 of.1 (λ d. known (of.2.status ∙ d)), of.2))
    f.kind ((findings_exact P g).sound f at) less in
    (again.0, (findings_exact R h).complete (record { key = x; kind = again.0 }) again.1, again.2)

-- what is told again is no more of form than what was told
no_form_again : (j k : Kind) → TellsAgain j k → concerns_form j ≡ false → concerns_form k ≡ false
no_form_again (kind.Stale t i v n) k again free = ap concerns_form again.1
no_form_again (kind.Overlap a b) k again free = ap concerns_form again.1
no_form_again (kind.Unknown t i v) k again free = ap concerns_form again ∙ free
no_form_again (kind.Doubt t i v u) k again free = ap concerns_form again ∙ free
no_form_again (kind.Own t i v w) k again free = ap concerns_form again ∙ free
no_form_again (kind.Aborted t i v u) k again free = ap concerns_form again ∙ free
no_form_again (kind.Intermediate t i v u) k again free = ap concerns_form again ∙ free
no_form_again (kind.Future t i v u) k again free = ap concerns_form again ∙ free

pub phenomena_stay : PhenomenaStay
phenomena_stay edits more a b nothing unset shown =
    let f = shown.0 in
    let past = past_form f.kind shown.2 in
    let again = violations_stay edits more f b nothing (unset f.key) shown.1 past in
    (record { key = f.key; kind = again.0 }, again.1, no_form_again f.kind again.0 again.2 shown.2)
  where
    past_form : (k : Kind) → concerns_form k ≡ false → 2 < number k
    past_form k free = let more = leb-false (number k) 3 free in omega arith
