-- A run with horizons tells a finding of what its edits have a finding of without them.
use Rattle.std.proofs.Common.{◌≡◌, ◌≢◌, ◌⊎◌, inl, inr, ℕ, ◌<◌, ◌≤◌, Bool, true, not, List, [], ◌∷◌, ◌++◌, map, refl, sym, ap, subst, ◌∙◌, arith, append_assoc, append-nil}
use Rattle.std.specs.List.{Contains, filter}
use Rattle.std.proofs.lemmas.List.Elements.{Contains-append_cases}
use Rattle.si_model.specs.declared.numbers.TxnId.{TxnId}
use Rattle.si_model.specs.declared.numbers.Stamp.{Stamp}
use Rattle.si_model.specs.declared.transactions.Status.{Status}
use Rattle.si_model.specs.declared.transactions.Status.TheVariants as status
use Rattle.si_model.specs.declared.transactions.Txn.{Txn}
use Rattle.si_model.specs.declared.edits.Edit.{Edit}
use Rattle.si_model.specs.declared.edits.Edit.TheVariants as edit
use Rattle.si_model.specs.declared.kinds.Kind.{Kind}
use Rattle.si_model.specs.declared.findings.Finding.{Finding}
use Rattle.si_model.specs.Parts.{Present}
use Rattle.si_model.specs.Order.{number}
use Rattle.si_model.specs.Findings.{findings}
use Rattle.si_model.specs.History.{IsHistory}
use Rattle.si_model.specs.Edits.{is_in_doubt, IsAcceptable, after}
use Rattle.si_model.specs.Journals.{present, IsAccepted}
use Rattle.si_model.specs.ChanceLaws.{Finds}
use Rattle.si_model.specs.Horizons.{IsGone, IsOfBelow, HasNoDoubtBelow, ListsSettled, IsLate, subject, carried, making}
use Rattle.si_model.specs.HorizonLaws.{AreLate, IsFinal}
use Rattle.si_model.specs.HorizonRuns.{Epoch, all_edits, settled, present_on, GoesOn, IsToldOn, IsTold, TellsAll, HorizonsLoseNothing}
use Rattle.si_lists.proofs.Members.{Contains-nil, here, there, Contains-cons_cases, Contains-map, Contains-from_map, Contains-filter, Contains-from_filter}
use Rattle.si_lists.proofs.Names.{same_named}
use Rattle.si_model.proofs.Acceptance.{present_push, accepted_begins, accepted_push}
use Rattle.si_model.proofs.PresentHistories.{acceptance_exact, present_history}
use Rattle.si_model.proofs.Rests.{rest_exact, some_rest, carries_rest}
use Rattle.si_model.proofs.Carrying.{came, went, carried_history}
use Rattle.si_model.proofs.Making.{made}
use Rattle.si_model.proofs.CarryingTwice.{gone_still, twice}
use Rattle.si_model.proofs.LateEdits.{late_edit}
use Rattle.si_model.proofs.Losses.{read_below, nothing_lost}
use Rattle.si_model.proofs.Finals.{Stays, stays_after, finals}
use Rattle.si_model.proofs.Below.{reader_starts, told_read, below_over, nothing_below, finals_final}

-- ---- settled transactions

abbrev is_known : Txn → Bool
is_known T = not (is_in_doubt T.status)

known_is : (s : Status) → not (is_in_doubt s) ≡ true → s ≢ status.InDoubt
known_is (status.Committed c) e d = cc
known_is status.Aborted e d = cc
known_is status.InDoubt e d = cc

known_from : (s : Status) → s ≢ status.InDoubt → not (is_in_doubt s) ≡ true
known_from (status.Committed c) d = refl
known_from status.Aborted d = refl
known_from status.InDoubt d = absurd (d refl)

pub settled_lists : (P : Present) → ListsSettled P (settled P)
unfolding settled
settled_lists P u = (
  λ c.
      (let m = Contains-from_map (λ (T : Txn). T.id) (filter is_known P.txns) u c in
      let f = Contains-from_filter is_known P.txns m.0 m.1 in
      (m.0, f.0, m.2, known_is m.0.status f.1)),
  λ s. subst (Contains (map (λ (T : Txn). T.id) (filter is_known P.txns))) s.2 (Contains-map (λ (T : Txn). T.id) (filter is_known P.txns) s.0 (Contains-filter is_known P.txns s.0 s.1 (known_from s.0.status s.3))),
)

-- the ids are those of what is known and isn't gone, or more
abbrev Covers : Stamp → Present → List TxnId → Type 0
Covers H P ids = (T : Txn) → Contains P.txns T → T.status ≢ status.InDoubt → (IsGone H T → ⊥) → Contains ids T.id

-- ---- the edits of an epoch are late without horizons too

late_whole : (W0 W : Present) (H : Stamp) (S ids : List TxnId) (e : Edit) → ListsSettled W0 S → Covers H W0 ids → Stays W0 W H S → IsHistory W → IsAcceptable (carried H W) e → IsLate H ids e → IsLate H S e
late_whole W0 W H S ids (edit.Arrive T) listed covers s h a late = late
late_whole W0 W H S ids (edit.Resolve u o) listed covers s h a late = tt
late_whole W0 W H S ids (edit.SetUp x v) listed covers s h a late = late
late_whole W0 W H S ids (edit.Withdraw u) listed covers s h a late = λ c.
    let asked = ((acceptance_exact (carried H W) (edit.Withdraw u) (carried_history W H h)).0 a).0 in
    let t = came W H asked.0 asked.1 in
    let T = (listed u).0 c in
    let one = same_named (λ V. V.id) W.txns h.names T.0 t.txn (s.stays T.0 T.1 T.3) t.at (T.2 ∙ sym asked.2 ∙ t.carries.id) in
    let not_gone : IsGone H T.0 → ⊥ = λ g. ((rest_exact H t.txn asked.0).0 t.is).0 (subst (IsGone H) one g) in
    late (subst (Contains ids) T.2 (covers T.0 T.1 T.3 not_gone))

-- a journal of what is carried over, beside one without horizons that went on from W0
record Follows (W0 : Present) (J K : List Edit) (H : Stamp) (S : List TxnId) : Type 0 where
  accepted : IsAccepted K
  leaves : present K ≡ carried H (present J)
  stays : Stays W0 (present J) H S

module _ (W0 : Present) (H : Stamp) (S ids : List TxnId) (listed : ListsSettled W0 S) (covers : Covers H W0 ids) where
  follow : (J K more : List Edit) → Follows W0 J K H S → IsAccepted (J ++ more) → IsAccepted (K ++ more) → AreLate H ids more → Follows W0 (J ++ more) (K ++ more) H S × AreLate H S more
  follow J K [] f a b late = (
    subst (λ L. Follows W0 L (K ++ []) H S) (sym (append-nil J)) (subst (λ L. Follows W0 J L H S) (sym (append-nil K)) f),
    λ e c. absurd (Contains-nil e c),
  )
  follow J K (e ∷ more) f a b late =
      let h = present_history J (accepted_begins J (e ∷ more) a) in
      let ours = a J e more refl in
      let theirs = b K e more refl in
      let now = late_whole W0 (present J) H S ids e listed covers f.stays h (subst (λ R. IsAcceptable R e) f.leaves theirs) (late e (here e more)) in
      let step = late_edit (present J) H S e h f.stays.doubt f.stays.below now ours in
      let next : Follows W0 (J ++ e ∷ []) (K ++ e ∷ []) H S = record {
        accepted = (accepted_push K e).1 (f.accepted, theirs);
        leaves = present_push K e ∙ ap (after e) f.leaves ∙ sym step.commutes ∙ ap (carried H) (sym (present_push J e));
        stays = subst (λ R. Stays W0 R H S) (sym (present_push J e)) (stays_after W0 H S (λ T c d. (listed T.id).1 (T, c, refl, d)) (present J) e f.stays h now ours);
      } in
      let split = append_assoc J (e ∷ []) more in
      let cut = append_assoc K (e ∷ []) more in
      let rest = follow (J ++ e ∷ []) (K ++ e ∷ []) more next (subst IsAccepted (sym split) a) (subst IsAccepted (sym cut) b) (λ d c. late d (there e more d c)) in (
        subst (λ L. Follows W0 (J ++ e ∷ more) L H S) cut (subst (λ L. Follows W0 L ((K ++ e ∷ []) ++ more) H S) split rest.0),
        λ d c. elim (Contains-cons_cases e more d c) [ inl s ↦ subst (IsLate H S) s now | inr m ↦ rest.1 d m ],
      )

-- the same of the edits of an epoch, on what was carried over
record Epochs (J more : List Edit) (base : Present) (H : Stamp) (S : List TxnId) : Type 0 where
  leaves : present_on base more ≡ carried H (present (J ++ more))
  stays : Stays (present J) (present (J ++ more)) H S
  late : AreLate H S more

epoch : (J more : List Edit) (base : Present) (H : Stamp) (S ids : List TxnId) → base ≡ carried H (present J) → HasNoDoubtBelow H (present J) → ListsSettled (present J) S → Covers H (present J) ids
    → IsAccepted (J ++ more) → IsAccepted (making base ++ more) → AreLate H ids more → Epochs J more base H S
epoch J more base H S ids same doubt listed covers a b late =
    let P = present J in
    let h = present_history J (accepted_begins J more a) in
    let m = made base (subst IsHistory (sym same) (carried_history P H h)) in
    let start : Follows P J (making base) H S = record {
      accepted = m.0;
      leaves = m.1 ∙ same;
      stays = record { initial = refl; stays = λ T c d. c; new = λ U c. inl c; doubt = doubt; below = λ T c less. (listed T.id).1 (T, c, refl, doubt T c less) };
    } in
    let all = follow P H S ids listed covers J (making base) more start a b late in
    record { leaves = all.0.leaves; stays = all.0.stays; late = all.1 }

-- ---- from one horizon to the next

module _ (W : Present) (H K : Stamp) (le : H.0 ≤ K.0) where
  doubt_again : HasNoDoubtBelow K (carried H W) → HasNoDoubtBelow K W
  doubt_again none T c less d =
      let some = some_rest H T stays in
      let carries = carries_rest H T some.0 some.1 in
      none some.0 (went W H T some.0 c some.1) (subst (λ s. s.0 < K.0) (sym carries.start) less) (carries.status ∙ d)
    where
      stays : IsGone H T → ⊥
      stays (inl g) = let wrong = sym d ∙ g.1 in cc
      stays (inr g) = let wrong = sym d ∙ g.0 in cc

  covers_again : (now : Present) → now ≡ carried H W → Covers K W (settled now)
  covers_again now e T c known not_gone =
      let some = some_rest H T (λ g. not_gone (gone_still H K le T g)) in
      let carries = carries_rest H T some.0 some.1 in
      (settled_lists now T.id).1 (some.0, subst (λ R. Contains R.txns some.0) (sym e) (went W H T some.0 c some.1), carries.id, λ d. known (sym carries.status ∙ d))

  carried_next : (now : Present) → IsHistory W → now ≡ carried H W → carried K now ≡ carried K W
  carried_next now h e = ap (carried K) e ∙ twice W H K h le

  -- what is late behind the second horizon is so behind the first
  late_before : (W0 : Present) (S : List TxnId) (e : Edit) → ListsSettled W0 S → Stays W0 W H S → IsLate K (settled W) e → IsLate H S e
  late_before W0 S (edit.Arrive T) listed s late = omega arith
  late_before W0 S (edit.Resolve u o) listed s late = tt
  late_before W0 S (edit.SetUp x v) listed s late = late
  late_before W0 S (edit.Withdraw u) listed s late = λ c. let T = (listed u).0 c in late ((settled_lists W u).1 (T.0, s.stays T.0 T.1 T.3, T.2, T.3))

-- ---- all epochs

-- what the run tells from the horizon H on, beside the findings without horizons
record Through (J : List Edit) (H : Stamp) (S : List TxnId) (base : Present) (epochs : List Epoch) (last : List Edit) : Type 0 where
  late : AreLate H S (all_edits epochs last)
  kept : (x : List ℕ) (k : Kind) → Finds (present (J ++ all_edits epochs last)) x k
      → ((j : Kind) × IsToldOn base epochs last x j × (subject j ≡ subject k)) ⊎ ((j : Kind) × Finds (present J) x j × IsOfBelow (present J) H j × (subject j ≡ subject k))
  new : (x : List ℕ) (k : Kind) → IsToldOn base epochs last x k → (j : Kind) × Finds (present (J ++ all_edits epochs last)) x j × (subject j ≡ subject k) × (2 < number k → 2 < number j)

-- what three findings are of
same_subject : (j k l : Kind) → subject j ≡ subject k → subject k ≡ subject l → subject j ≡ subject l
same_subject j k l e f = e ∙ f

through : (epochs : List Epoch) (last J : List Edit) (H : Stamp) (S ids : List TxnId) (base : Present) → base ≡ carried H (present J) → HasNoDoubtBelow H (present J) → ListsSettled (present J) S → Covers H (present J) ids
    → IsAccepted (J ++ all_edits epochs last) → GoesOn base H ids epochs last → Through J H S base epochs last
through [] last J H S ids base same doubt listed covers a goes =
    let E = epoch J last base H S ids same doubt listed covers a goes.0 goes.1 in
    let W = present (J ++ last) in
    let h = present_history (J ++ last) a in
    record {
      late = E.late;
      kept = λ x k found. elim ((nothing_lost W H h).kept x k found) [
        | inl f ↦ inl (k, subst (λ R. Finds R x k) (sym E.leaves) f, refl)
        | inr or ↦ elim or [
          | inl below ↦ inr (nothing_below J last H S x k a doubt listed E.late found below)
          | inr t ↦ inl (t.0, subst (λ R. Finds R x t.0) (sym E.leaves) t.2, sym (told_read k t.0 t.1).subject)
        ]
      ];
      new = λ x k told. elim ((nothing_lost W H h).new x k (subst (λ R. Finds R x k) E.leaves told)) [
        | inl f ↦ (k, f, refl, λ more. more)
        | inr t ↦ (let read = told_read t.0 k t.1 in (t.0, t.2, read.subject, λ more. read.violation))
      ];
    }
through (e ∷ epochs) last J H S ids base same doubt listed covers a goes =
    let rest = all_edits epochs last in
    let K = e.horizon in
    let le = goes.2 in
    let split = append_assoc J e.edits rest in
    let all = subst IsAccepted (sym split) a in
    let ours = accepted_begins (J ++ e.edits) rest all in
    let E = epoch J e.edits base H S ids same doubt listed covers ours goes.0 goes.1 in
    let W = present (J ++ e.edits) in
    let h = present_history (J ++ e.edits) ours in
    let now = present_on base e.edits in
    let next = carried_next W H K le now h E.leaves in
    let none = doubt_again W H K le (subst (HasNoDoubtBelow K) E.leaves goes.3) in
    let later = through epochs last (J ++ e.edits) K (settled W) (settled now) (carried K now) next none (settled_lists W) (covers_again W H K le now E.leaves) all goes.4 in
    let final : (x : List ℕ) (j : Kind) → Finds (carried H W) x j → IsOfBelow W K j → IsFinal now K x j = λ x j f below.
    (subst (λ R. Finds R x j) (sym E.leaves) f, λ c. below_over W K h x j below (subst (λ R. Finds R x j) next c)) in
    record {
      late = λ d c. elim (Contains-append_cases e.edits rest d c) [ inl m ↦ E.late d m | inr m ↦ late_before W H K le (present J) S d listed E.stays (later.late d m) ];
      kept = λ x k found. elim (later.kept x k (subst (λ L. Finds (present L) x k) (sym split) found)) [
        | inl t ↦ inl (t.0, inr t.1, t.2)
        | inr b ↦ elim ((nothing_lost W H h).kept x b.0 b.1) [
          | inl f ↦ inl (b.0, inl (final x b.0 f b.2), b.3)
          | inr or ↦ elim or [
            | inl below ↦ (let n = nothing_below J e.edits H S x b.0 ours doubt listed E.late b.1 below in inr (n.0, n.1, n.2, n.3 ∙ b.3))
            | inr t ↦
                (let read = told_read b.0 t.0 t.1 in
                let below = read_below W K t.0 read.txn read.place read.told (reader_starts W K b.0 read.txn read.place read.read b.2) in
                inl (t.0, inl (final x t.0 t.2 below), sym read.subject ∙ b.3))
          ]
        ]
      ];
      new = λ x k told. elim told [
        | inl is ↦
            (let f = finals_final W H K x k h le (subst (λ R. IsFinal R K x k) E.leaves is) in
            let s = finals (J ++ e.edits) rest K (settled W) x f.0 all none (settled_lists W) later.late f.1 in
            (s.0, subst (λ L. Finds (present L) x s.0) split s.1, same_subject s.0 f.0 k s.2 f.2, λ more. s.3 (f.3 more)))
        | inr after ↦ (let s = later.new x k after in (s.0, subst (λ L. Finds (present L) x s.0) split s.1, s.2, s.3))
      ];
    }

-- ---- the law

no_findings : (fs : List Finding) → ((f : Finding) → Contains fs f → ⊥) → fs ≡ []
no_findings [] none = refl
no_findings (f ∷ fs) none = absurd (none f (here f fs))

tells : (epochs : List Epoch) (last : List Edit)
    → ((x : List ℕ) (k : Kind) → Finds (present (all_edits epochs last)) x k → (j : Kind) × IsTold epochs last x j × (subject j ≡ subject k))
    → ((x : List ℕ) (k : Kind) → IsTold epochs last x k → (j : Kind) × Finds (present (all_edits epochs last)) x j × (subject j ≡ subject k) × (2 < number k → 2 < number j))
    → TellsAll epochs last
tells epochs last kept new = record {
  kept = kept;
  new = new;
  none = (
    λ e x k told. (let j = new x k told in Contains-nil (record { key = x; kind = j.0 }) (subst (λ fs. Contains fs (record { key = x; kind = j.0 })) e j.1)),
    λ none. no_findings (findings (present (all_edits epochs last))) (λ f c. let j = kept f.key f.kind c in none f.key j.0 j.1),
  );
}

pub lose_nothing : HorizonsLoseNothing
lose_nothing [] last run a = tells [] last (λ x k f. (k, f, refl)) (λ x k f. (k, f, refl, λ more. more))
lose_nothing (e ∷ epochs) last run a =
    let W = present e.edits in
    let K = e.horizon in
    let rest = all_edits epochs last in
    let h = present_history e.edits run.0 in
    let covers : Covers K W (settled W) = λ T c known stays. (settled_lists W T.id).1 (T, c, refl, known) in
    let later = through epochs last e.edits K (settled W) (settled W) (carried K W) refl run.1 (settled_lists W) covers a run.2 in
    tells (e ∷ epochs) last
    (λ x k found. elim (later.kept x k found) [
      | inl t ↦ (t.0, inr t.1, t.2)
      | inr b ↦ (b.0, inl (b.1, below_over W K h x b.0 b.2), b.3)
    ])
    (λ x k told. elim told [
      | inl is ↦ finals e.edits rest K (settled W) x k a run.1 (settled_lists W) later.late is
      | inr after ↦ later.new x k after
    ])
