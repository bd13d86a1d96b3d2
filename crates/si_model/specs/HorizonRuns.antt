-- Runs with horizons: the edits between them, what is told at each, and what is found at the end. All of it is this project's choice.
use Rattle.std.specs.Prelude.{◌≡◌, ◌↔◌, ◌⊎◌, ℕ, ◌<◌, ◌≤◌, not, List, [], ◌∷◌, ◌++◌, map}
use Rattle.std.specs.List.{filter}
use Rattle.si_model.specs.declared.numbers.TxnId.{TxnId}
use Rattle.si_model.specs.declared.numbers.Stamp.{Stamp}
use Rattle.si_model.specs.declared.edits.Edit.{Edit}
use Rattle.si_model.specs.declared.kinds.Kind.{Kind}
use Rattle.si_model.specs.Parts.{Present}
use Rattle.si_model.specs.Order.{number}
use Rattle.si_model.specs.Findings.{findings}
use Rattle.si_model.specs.Edits.{is_in_doubt}
use Rattle.si_model.specs.Journals.{present, IsAccepted}
use Rattle.si_model.specs.ChanceLaws.{Finds}
use Rattle.si_model.specs.Horizons.{HasNoDoubtBelow, subject, carried, making}
use Rattle.si_model.specs.HorizonLaws.{AreLate, IsFinal}

-- the edits up to a horizon, and the horizon
pub record Epoch : Type 0 where
  pub edits : List Edit
  pub horizon : Stamp

-- all edits of a run, of which the last ones come behind its last horizon
abbrev pub all_edits : List Epoch → List Edit → List Edit
all_edits [] last = last
all_edits (e ∷ epochs) last = e.edits ++ all_edits epochs last

-- the ids of the settled transactions
unfoldable pub settled : Present → List TxnId
settled P = map (λ T. T.id) (filter (λ T. not (is_in_doubt T.status)) P.txns)

-- what is present after these edits, where what is carried over was there before
abbrev pub present_on : Present → List Edit → Present
present_on base edits = present (making base ++ edits)

-- a run goes on behind the horizon H, which carried base over and settled these transactions: its edits are late and accepted, and each
-- later horizon is no less and leaves no doubt below it
abbrev pub GoesOn : Present → Stamp → List TxnId → List Epoch → List Edit → Type 0
GoesOn base H ids [] last = IsAccepted (making base ++ last) × AreLate H ids last
GoesOn base H ids (e ∷ epochs) last =
    IsAccepted (making base ++ e.edits) × AreLate H ids e.edits × (H.0 ≤ e.horizon.0) × HasNoDoubtBelow e.horizon (present_on base e.edits)
    × GoesOn (carried e.horizon (present_on base e.edits)) e.horizon (settled (present_on base e.edits)) epochs last

-- a run from nothing
abbrev pub IsRun : List Epoch → List Edit → Type 0
IsRun [] last = IsAccepted last
IsRun (e ∷ epochs) last =
    IsAccepted e.edits × HasNoDoubtBelow e.horizon (present e.edits) × GoesOn (carried e.horizon (present e.edits)) e.horizon (settled (present e.edits)) epochs last

-- such a run that goes on tells the kind on the key x: as final at a horizon, or as found at the end
abbrev pub IsToldOn : Present → List Epoch → List Edit → List ℕ → Kind → Type 0
IsToldOn base [] last x k = Finds (present_on base last) x k
IsToldOn base (e ∷ epochs) last x k = IsFinal (present_on base e.edits) e.horizon x k ⊎ IsToldOn (carried e.horizon (present_on base e.edits)) epochs last x k

-- a run from nothing tells it
abbrev pub IsTold : List Epoch → List Edit → List ℕ → Kind → Type 0
IsTold [] last x k = Finds (present last) x k
IsTold (e ∷ epochs) last x k = IsFinal (present e.edits) e.horizon x k ⊎ IsToldOn (carried e.horizon (present e.edits)) epochs last x k

-- what a run tells, beside the findings of all its edits
pub record TellsAll (epochs : List Epoch) (last : List Edit) : Type 0 where
  -- of what has a finding, the run tells one
  pub kept : (x : List ℕ) (k : Kind) → Finds (present (all_edits epochs last)) x k → (j : Kind) × IsTold epochs last x j × (subject j ≡ subject k)
  -- what the run tells something of has a finding, and a violation where it tells one
  pub new : (x : List ℕ) (k : Kind) → IsTold epochs last x k → (j : Kind) × Finds (present (all_edits epochs last)) x j × (subject j ≡ subject k) × (2 < number k → 2 < number j)
  -- so nothing has a finding exactly where the run tells none
  pub none : (findings (present (all_edits epochs last)) ≡ []) ↔ ((x : List ℕ) (k : Kind) → IsTold epochs last x k → ⊥)

-- horizons lose nothing: where all edits of a run are accepted without horizons too, they have a finding exactly where the run tells one
abbrev pub HorizonsLoseNothing : Type 0
HorizonsLoseNothing = (epochs : List Epoch) (last : List Edit) → IsRun epochs last → IsAccepted (all_edits epochs last) → TellsAll epochs last

-- a run that goes on finds the kind on the key x at one of its horizons or at its end
abbrev pub IsMetOn : Present → List Epoch → List Edit → List ℕ → Kind → Type 0
IsMetOn base [] last x k = Finds (present_on base last) x k
IsMetOn base (e ∷ epochs) last x k = Finds (present_on base e.edits) x k ⊎ IsMetOn (carried e.horizon (present_on base e.edits)) epochs last x k

-- a run from nothing finds it so
abbrev pub IsMet : List Epoch → List Edit → List ℕ → Kind → Type 0
IsMet [] last x k = Finds (present last) x k
IsMet (e ∷ epochs) last x k = Finds (present e.edits) x k ⊎ IsMetOn (carried e.horizon (present e.edits)) epochs last x k

-- where a run finds a violation at a horizon, it tells one of the same read or second version, whatever comes later
abbrev pub ViolationsAreTold : Type 0
ViolationsAreTold = (epochs : List Epoch) (last : List Edit) (x : List ℕ) (k : Kind) → IsRun epochs last → IsMet epochs last x k → 2 < number k
    → (j : Kind) × IsTold epochs last x j × (subject j ≡ subject k) × (2 < number j)
