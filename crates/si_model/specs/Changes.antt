-- Changes of a history, each as a likely fault of a database makes it: a read returns something else, an aborted transaction commits,
-- a version is lost. All of it is this project's choice.
use Rattle.std.specs.Prelude.{ℕ, not, ◌&&◌, if◌then◌else◌, zero, suc, List, [], ◌∷◌, map, Some, Option}
use Rattle.std.specs.Option.{option_eq}
use Rattle.si_model.specs.declared.numbers.TxnId.{TxnId}
use Rattle.si_model.specs.declared.numbers.Stamp.{Stamp}
use Rattle.si_model.specs.declared.numbers.Value.{Value}
use Rattle.si_model.specs.declared.operations.Op.{Op}
use Rattle.si_model.specs.declared.operations.Op.TheVariants as op
use Rattle.si_model.specs.declared.transactions.Outcome.TheVariants as outcome
use Rattle.si_model.specs.declared.transactions.Txn.{Txn}
use Rattle.si_model.specs.Operations.{same_value, same_key}
use Rattle.si_model.specs.Parts.{Present}
use Rattle.si_model.specs.Edits.{same_id, resolved}
use Rattle.si_model.specs.Chances.{is_committed}

-- ---- one read returns something else

-- an operation that returns v if it is a read
abbrev pub returned : Option Value → Op → Op
returned v (op.Read x w) = op.Read x v
returned v (op.Write x w) = op.Write x w

-- the operations, of which the one at the place i returns v if it is a read
abbrev pub returned_at : ℕ → Option Value → List Op → List Op
returned_at i v [] = []
returned_at zero v (p ∷ ops) = returned v p ∷ ops
returned_at (suc i) v (p ∷ ops) = p ∷ returned_at i v ops

-- T, whose operation at the place i returns v if its id is t
abbrev pub returning_in : TxnId → ℕ → Option Value → Txn → Txn
returning_in t i v T = if same_id T.id t then record T { ops = returned_at i v T.ops } else T

-- what is present, where the operation at the place i of the transaction t returns v
unfoldable pub returning : TxnId → ℕ → Option Value → Present → Present
returning t i v P = record P { txns = map (returning_in t i v) P.txns }

-- ---- an aborted transaction commits

-- what is present, where the transaction u commits at c
unfoldable pub committing : TxnId → Stamp → Present → Present
committing u c P = record P { txns = map (resolved u (outcome.Committed c)) P.txns }

-- ---- a version is lost

-- the operations, of which each read of x before the first write of x returns w where it returned v
abbrev pub lost : List ℕ → Value → Option Value → List Op → List Op
lost x v w [] = []
lost x v w (op.Read y r ∷ ops) = op.Read y (if same_key y x && option_eq same_value r (Some v) then w else r) ∷ lost x v w ops
lost x v w (op.Write y r ∷ ops) = op.Write y r ∷ (if same_key y x then ops else lost x v w ops)

-- T, whose free reads of x return w where they returned v, if it is committed and its id isn't u
abbrev pub losing_in : List ℕ → TxnId → Value → Option Value → Txn → Txn
losing_in x u v w T = if is_committed T.status && not (same_id T.id u) then record T { ops = lost x v w T.ops } else T

-- what is present, where the free reads of x by others than the transaction u return w where they returned v
unfoldable pub losing : List ℕ → TxnId → Value → Option Value → Present → Present
losing x u v w P = record P { txns = map (losing_in x u v w) P.txns }
