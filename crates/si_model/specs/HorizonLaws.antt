-- The laws of horizons, each the contract of a public function of `laws` with an empty body. They are this project's.
use Rattle.std.specs.Prelude.{◌≡◌, ◌<◌, ◌≤◌, ◌⊎◌, ℕ, List, ◌++◌}
use Rattle.std.specs.List.{Contains}
use Rattle.si_model.specs.declared.numbers.TxnId.{TxnId}
use Rattle.si_model.specs.declared.numbers.Stamp.{Stamp}
use Rattle.si_model.specs.declared.transactions.Txn.{Txn}
use Rattle.si_model.specs.declared.edits.Edit.{Edit}
use Rattle.si_model.specs.declared.kinds.Kind.{Kind}
use Rattle.si_model.specs.Parts.{Present}
use Rattle.si_model.specs.History.{IsHistory}
use Rattle.si_model.specs.Order.{number}
use Rattle.si_model.specs.Edits.{IsAcceptable, after}
use Rattle.si_model.specs.Journals.{present, IsAccepted}
use Rattle.si_model.specs.ChanceLaws.{Finds}
use Rattle.si_model.specs.Horizons.{IsCarried, HasNoDoubtBelow, IsOfBelow, IsToldAs, subject, ListsSettled, IsLate, carried, making}

-- of a history, what is carried over a horizon is what the relation says
abbrev pub CarriedIsExact : Type 0
CarriedIsExact = (P : Present) (H : Stamp) → IsHistory P → IsCarried P H (carried H P)

-- and it is a history
abbrev pub CarriedIsHistory : Type 0
CarriedIsHistory = (P : Present) (H : Stamp) → IsHistory P → IsHistory (carried H P)

-- the edits that make a history are accepted and leave it
abbrev pub HistoriesAreMade : Type 0
HistoriesAreMade = (Q : Present) → IsHistory Q → IsAccepted (making Q) × (present (making Q) ≡ Q)

-- carrying over one horizon and then over another that is no less is carrying over the other
abbrev pub CarryingTwice : Type 0
CarryingTwice = (P : Present) (H K : Stamp) → IsHistory P → H.0 ≤ K.0 → carried K (carried H P) ≡ carried K P

-- each transaction that started below the horizon is one of those that are settled
abbrev pub HasSettledBelow : Stamp → List TxnId → Present → Type 0
HasSettledBelow H settled P = (T : Txn) → Contains P.txns T → T.start.0 < H.0 → Contains settled T.id

-- the edit is acceptable on what is carried over too, leaves there what is carried over of what it leaves, and keeps what a horizon asks
pub record EditCarries (P : Present) (H : Stamp) (settled : List TxnId) (e : Edit) : Type 0 where
  pub acceptable : IsAcceptable (carried H P) e
  pub commutes : carried H (after e P) ≡ after e (carried H P)
  pub doubt : HasNoDoubtBelow H (after e P)
  pub kept : HasSettledBelow H settled (after e P)

-- of a history without doubt below the horizon, a late edit that is acceptable is so
abbrev pub LateEditsCarry : Type 0
LateEditsCarry = (P : Present) (H : Stamp) (settled : List TxnId) (e : Edit) → IsHistory P → HasNoDoubtBelow H P → HasSettledBelow H settled P
    → IsLate H settled e → IsAcceptable P e → EditCarries P H settled e

-- each of the edits is late
abbrev pub AreLate : Stamp → List TxnId → List Edit → Type 0
AreLate H settled more = (e : Edit) → Contains more e → IsLate H settled e

-- the same of edits that follow those of a journal: they are accepted behind the edits that make what is carried over, and leave there
-- what is carried over of what they leave
pub record EditsCarry (edits more : List Edit) (H : Stamp) : Type 0 where
  pub accepted : IsAccepted (making (carried H (present edits)) ++ more)
  pub leaves : present (making (carried H (present edits)) ++ more) ≡ carried H (present (edits ++ more))
  pub doubt : HasNoDoubtBelow H (present (edits ++ more))

-- of a journal that leaves no doubt below the horizon, late edits that are accepted behind it are so
abbrev pub LateJournalsCarry : Type 0
LateJournalsCarry = (edits more : List Edit) (H : Stamp) (settled : List TxnId) → IsAccepted (edits ++ more) → HasNoDoubtBelow H (present edits)
    → ListsSettled (present edits) settled → AreLate H settled more → EditsCarry edits more H

-- the findings of what is present, beside those of what is carried over the horizon
pub record LosesNothing (P : Present) (H : Stamp) : Type 0 where
  -- what is found is found of what is carried over too, or it is of a read that started below the horizon or of two versions of which the
  -- first was installed below it, or the read is told as unknown there
  pub kept : (x : List ℕ) (k : Kind) → Finds P x k → Finds (carried H P) x k ⊎ (IsOfBelow P H k ⊎ ((j : Kind) × IsToldAs k j × Finds (carried H P) x j))
  -- and what is found of what is carried over was found, or the read is told as unknown there
  pub new : (x : List ℕ) (j : Kind) → Finds (carried H P) x j → Finds P x j ⊎ ((k : Kind) × IsToldAs k j × Finds P x k)

-- of a history, no finding is lost over a horizon but those
abbrev pub NothingIsLost : Type 0
NothingIsLost = (P : Present) (H : Stamp) → IsHistory P → LosesNothing P H

-- a finding is final: it is found of what is present, and not of what is carried over the horizon
abbrev pub IsFinal : Present → Stamp → List ℕ → Kind → Type 0
IsFinal P H x k = Finds P x k × (Finds (carried H P) x k → ⊥)

-- where no doubt is left below the horizon, whatever late edits are accepted later, the read of a final finding has a finding still, and
-- so has the second version of two; and a violation stays one
abbrev pub FinalsStay : Type 0
FinalsStay = (edits more : List Edit) (H : Stamp) (settled : List TxnId) (x : List ℕ) (k : Kind) → IsAccepted (edits ++ more) → HasNoDoubtBelow H (present edits)
    → ListsSettled (present edits) settled → AreLate H settled more → IsFinal (present edits) H x k
    → (j : Kind) × Finds (present (edits ++ more)) x j × (subject j ≡ subject k) × (2 < number k → 2 < number j)

-- and where something that lies below the horizon has a finding then, it lay below it and had one at the horizon
abbrev pub NothingComesBelow : Type 0
NothingComesBelow = (edits more : List Edit) (H : Stamp) (settled : List TxnId) (x : List ℕ) (k : Kind) → IsAccepted (edits ++ more) → HasNoDoubtBelow H (present edits)
    → ListsSettled (present edits) settled → AreLate H settled more → Finds (present (edits ++ more)) x k → IsOfBelow (present (edits ++ more)) H k
    → (j : Kind) × Finds (present edits) x j × IsOfBelow (present edits) H j × (subject j ≡ subject k)

-- of a history, what is final at a second horizon, of what was carried over the first, is final there of the history: it, or that which
-- was told as unknown
abbrev pub FinalsAreFinal : Type 0
FinalsAreFinal = (P : Present) (H K : Stamp) (x : List ℕ) (j : Kind) → IsHistory P → H.0 ≤ K.0 → IsFinal (carried H P) K x j
    → (k : Kind) × IsFinal P K x k × (subject k ≡ subject j) × (2 < number j → 2 < number k)
