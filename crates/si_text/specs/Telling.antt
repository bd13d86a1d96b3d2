-- How an edit is written as a line, over the JSON value that the line is. Members that aren't named here may stand beside these.
use Rattle.std.specs.Prelude.{◌≤◌, ⊤, List, [], ◌∷◌, length, codes, All}
use Rattle.serde_json.specs.Data.{Data, Items, no_items, item}
use Rattle.si_model.specs.KeyTexts.{IsKeyText}
use Rattle.si_model.specs.Operations.{key_of}
use Rattle.si_model.specs.declared.edits.Edit.{Edit}
use Rattle.si_model.specs.declared.edits.Edit.TheVariants.{Arrive, Resolve, Withdraw, SetUp}
use Rattle.si_model.specs.declared.operations.Op.{Op}
use Rattle.si_model.specs.declared.operations.TheConstants.{MOST_OPS}
use Rattle.si_model.specs.declared.transactions.Outcome.{Outcome}
use Rattle.si_model.specs.declared.transactions.Outcome.TheVariants as outcomes
use Rattle.si_model.specs.declared.transactions.Status.{Status}
use Rattle.si_model.specs.declared.transactions.Status.TheVariants.{Committed, Aborted, InDoubt}
use Rattle.si_text.specs.Conditions.{HasNumber, HasText, HasArray, IsOf, op_value}

-- operations as a line has them, in their order
abbrev pub op_values : List Op → Items
op_values [] = no_items
op_values (op ∷ ops) = item (op_value op) (op_values ops)

-- the value has this status, with its commit stamp where it has one
abbrev pub TellsStatus : Data → Status → Type 0
TellsStatus d (Committed commit) = HasText d (codes "status") (codes "committed") × HasNumber d (codes "commit") commit.0
TellsStatus d Aborted = HasText d (codes "status") (codes "aborted")
TellsStatus d InDoubt = HasText d (codes "status") (codes "indoubt")

-- the status of what became of a transaction
abbrev pub status_of : Outcome → Status
status_of (outcomes.Committed commit) = Committed commit
status_of outcomes.Aborted = Aborted

-- the value is the line of the edit
abbrev pub Tells : Data → Edit → Type 0
Tells d (Arrive txn) =
    IsOf d (codes "txn") × HasNumber d (codes "id") txn.id.0 × HasNumber d (codes "start") txn.start.0 × TellsStatus d txn.status
    × HasArray d (codes "ops") (op_values txn.ops)
Tells d (Resolve id outcome) = IsOf d (codes "resolve") × HasNumber d (codes "id") id.0 × TellsStatus d (status_of outcome)
Tells d (Withdraw id) = IsOf d (codes "withdraw") × HasNumber d (codes "id") id.0
Tells d (SetUp key value) = IsOf d (codes "setup") × HasText d (codes "key") key × HasNumber d (codes "value") value.0

-- the edit keeps the limits of a line
abbrev pub KeepsLimits : Edit → Type 0
KeepsLimits (Arrive txn) = (length txn.ops ≤ MOST_OPS) × All (λ op. IsKeyText (key_of op)) txn.ops
KeepsLimits (Resolve id outcome) = ⊤
KeepsLimits (Withdraw id) = ⊤
KeepsLimits (SetUp key value) = IsKeyText key
