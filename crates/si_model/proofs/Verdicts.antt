-- A violation that a run finds at a horizon is told, there or later.
use Rattle.std.proofs.Common.{◌≡◌, ◌≢◌, ◌⊎◌, inl, inr, ℕ, ◌<◌, List, [], ◌∷◌, ◌++◌, refl, sym, subst, ◌∙◌}
use Rattle.std.specs.List.{Contains}
use Rattle.si_model.specs.declared.numbers.TxnId.{TxnId}
use Rattle.si_model.specs.declared.numbers.Stamp.{Stamp}
use Rattle.si_model.specs.declared.transactions.Status.TheVariants as status
use Rattle.si_model.specs.declared.transactions.Txn.{Txn}
use Rattle.si_model.specs.declared.edits.Edit.{Edit}
use Rattle.si_model.specs.declared.kinds.Kind.{Kind}
use Rattle.si_model.specs.Parts.{Present}
use Rattle.si_model.specs.Order.{number}
use Rattle.si_model.specs.History.{IsHistory}
use Rattle.si_model.specs.Journals.{present, IsAccepted}
use Rattle.si_model.specs.ChanceLaws.{Finds}
use Rattle.si_model.specs.Horizons.{HasNoDoubtBelow, subject, carried, making}
use Rattle.si_model.specs.HorizonLaws.{AreLate, IsFinal}
use Rattle.si_model.specs.HorizonRuns.{Epoch, settled, present_on, GoesOn, IsToldOn, IsMetOn, ViolationsAreTold}
use Rattle.si_model.proofs.Exact.{findings_exact}
use Rattle.si_model.proofs.PresentHistories.{present_history}
use Rattle.si_model.proofs.Carrying.{came, carried_history}
use Rattle.si_model.proofs.Making.{made}
use Rattle.si_model.proofs.Finals.{Stays, stays_through, violation_kept}
use Rattle.si_model.proofs.Below.{final_or_carried}
use Rattle.si_model.proofs.HorizonRuns.{settled_lists}

-- what was carried over is a history, leaves no doubt below the horizon, and of what is known in it the ids are those of the settled
record IsBase (base : Present) (H : Stamp) (ids : List TxnId) : Type 0 where
  history : IsHistory base
  doubt : HasNoDoubtBelow H base
  known : (T : Txn) → Contains base.txns T → T.status ≢ status.InDoubt → Contains ids T.id

carried_base : (P : Present) (H : Stamp) → IsHistory P → HasNoDoubtBelow H P → IsBase (carried H P) H (settled P)
carried_base P H h doubt = record {
  history = carried_history P H h;
  doubt = λ U c less d. (let t = came P H U c in doubt t.txn t.at (subst (λ s. s.0 < H.0) t.carries.start less) (sym t.carries.status ∙ d));
  known = λ U c not. (let t = came P H U c in (settled_lists P U.id).1 (t.txn, t.at, sym t.carries.id, λ d. not (t.carries.status ∙ d)));
}

-- a violation in what was carried over is there after late edits
still : (base : Present) (H : Stamp) (ids : List TxnId) (edits : List Edit) (x : List ℕ) (k : Kind) → IsBase base H ids → IsAccepted (making base ++ edits) → AreLate H ids edits → Finds base x k → 2 < number k
    → (j : Kind) × Finds (present_on base edits) x j × (subject j ≡ subject k) × (2 < number j)
still base H ids edits x k is accepted late found less =
    let m = made base is.history in
    let start : Stays base base H ids = record { initial = refl; stays = λ T c d. c; new = λ U c. inl c; doubt = is.doubt; below = λ T c below. is.known T c (is.doubt T c below) } in
    let s = stays_through base H ids is.known (making base) edits (subst (λ R. Stays base R H ids) (sym m.1) start) accepted late in
    let kept = violation_kept base (present_on base edits) H ids is.history (present_history (making base ++ edits) accepted) s x k ((findings_exact base is.history).sound (record { key = x; kind = k }) found) less in
    (kept.0, kept.1, kept.2, kept.3 less)

module _ (x : List ℕ) where
  -- such a run tells a violation of the same
  abbrev TellsOn : Present → List Epoch → List Edit → Kind → Type 0
  TellsOn base epochs last k = (j : Kind) × IsToldOn base epochs last x j × (subject j ≡ subject k) × (2 < number j)

  told_on : (epochs : List Epoch) (last : List Edit) (base : Present) (H : Stamp) (ids : List TxnId) (k : Kind) → IsBase base H ids → GoesOn base H ids epochs last → Finds base x k → 2 < number k → TellsOn base epochs last k
  told_on [] last base H ids k is goes found less = still base H ids last x k is goes.0 goes.1 found less
  told_on (e ∷ epochs) last base H ids k is goes found less =
      let now = present_on base e.edits in
      let h = present_history (making base ++ e.edits) goes.0 in
      let s = still base H ids e.edits x k is goes.0 goes.1 found less in
      elim (final_or_carried now e.horizon x s.0 h s.1) [
        | inl carried_on ↦
            (let later = told_on epochs last (carried e.horizon now) e.horizon (settled now) s.0 (carried_base now e.horizon h goes.3) goes.4 carried_on s.3 in
            (later.0, inr later.1, later.2 ∙ s.2, later.3))
        | inr final ↦ (s.0, inl final, s.2, s.3)
      ]

  -- what is found at a horizon is told there or later
  told_from : (epochs : List Epoch) (last : List Edit) (now : Present) (K : Stamp) (k : Kind) → IsHistory now → HasNoDoubtBelow K now → GoesOn (carried K now) K (settled now) epochs last → Finds now x k → 2 < number k
      → (j : Kind) × (IsFinal now K x j ⊎ IsToldOn (carried K now) epochs last x j) × (subject j ≡ subject k) × (2 < number j)
  told_from epochs last now K k h doubt goes found less = elim (final_or_carried now K x k h found) [
    | inl carried_on ↦ (let later = told_on epochs last (carried K now) K (settled now) k (carried_base now K h doubt) goes carried_on less in (later.0, inr later.1, later.2, later.3))
    | inr final ↦ (k, inl final, refl, less)
  ]

  met_on : (epochs : List Epoch) (last : List Edit) (base : Present) (H : Stamp) (ids : List TxnId) (k : Kind) → GoesOn base H ids epochs last → IsMetOn base epochs last x k → 2 < number k → TellsOn base epochs last k
  met_on [] last base H ids k goes met less = (k, met, refl, less)
  met_on (e ∷ epochs) last base H ids k goes met less =
      let now = present_on base e.edits in
      elim met [
        | inl found ↦ told_from epochs last now e.horizon k (present_history (making base ++ e.edits) goes.0) goes.3 goes.4 found less
        | inr after ↦ (let later = met_on epochs last (carried e.horizon now) e.horizon (settled now) k goes.4 after less in (later.0, inr later.1, later.2, later.3))
      ]

pub told : ViolationsAreTold
told [] last x k run met less = (k, met, refl, less)
told (e ∷ epochs) last x k run met less = elim met [
  | inl found ↦ told_from x epochs last (present e.edits) e.horizon k (present_history e.edits run.0) run.1 run.2 found less
  | inr after ↦ (let later = met_on x epochs last (carried e.horizon (present e.edits)) e.horizon (settled (present e.edits)) k run.2 after less in (later.0, inr later.1, later.2, later.3))
]
