-- What an edit is on one key. All of it is this project's choice.
use Rattle.std.specs.Prelude.{ℕ, Bool, not, if◌then◌else◌, List, [], ◌∷◌, ◌++◌, map, Some, None, Option}
use Rattle.std.specs.List.{filter}
use Rattle.si_model.specs.declared.numbers.TxnId.{TxnId}
use Rattle.si_model.specs.declared.numbers.Value.{Value}
use Rattle.si_model.specs.declared.transactions.Outcome.{Outcome}
use Rattle.si_model.specs.declared.parts.Part.{Part}
use Rattle.si_model.specs.declared.parts.OnKey.{OnKey}
use Rattle.si_model.specs.declared.edits.Edit.{Edit}
use Rattle.si_model.specs.declared.edits.Edit.TheVariants as edit
use Rattle.si_model.specs.Operations.{same_key}
use Rattle.si_model.specs.Parts.{part}
use Rattle.si_model.specs.Edits.{same_id, status_after}

-- T, resolved if its id is u
abbrev pub resolved_part : TxnId → Outcome → Part → Part
resolved_part u o T = if same_id T.id u then record T { status = status_after o } else T

-- whether T isn't the transaction u
abbrev pub is_another_part : TxnId → Part → Bool
is_another_part u T = not (same_id T.id u)

-- a transaction arrives that does this on the key
abbrev pub arrived_on : Part → OnKey → OnKey
arrived_on T Q = record Q { parts = Q.parts ++ T ∷ [] }

-- the same of one that perhaps does nothing there
abbrev pub perhaps_arrived_on : Option Part → OnKey → OnKey
perhaps_arrived_on None Q = Q
perhaps_arrived_on (Some T) Q = arrived_on T Q

-- the transaction u is resolved
abbrev pub resolved_on : TxnId → Outcome → OnKey → OnKey
resolved_on u o Q = record Q { parts = map (resolved_part u o) Q.parts }

-- the transaction u is withdrawn
abbrev pub withdrawn_on : TxnId → OnKey → OnKey
withdrawn_on u Q = record Q { parts = filter (is_another_part u) Q.parts }

-- the key is set up with the value
abbrev pub set_up_on : Value → OnKey → OnKey
set_up_on v Q = record Q { initial = Some v }

-- what an edit makes of the key x
unfoldable pub edited_on : List ℕ → Edit → OnKey → OnKey
edited_on x (edit.Arrive T) Q = perhaps_arrived_on (part x T) Q
edited_on x (edit.Resolve u o) Q = resolved_on u o Q
edited_on x (edit.Withdraw u) Q = withdrawn_on u Q
edited_on x (edit.SetUp y v) Q = if same_key y x then set_up_on v Q else Q
