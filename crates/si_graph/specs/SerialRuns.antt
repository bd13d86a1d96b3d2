-- The serial run itself: what each key holds, and the operations of the committed transactions, one transaction after another, which
-- read and change it. A law says that it gives each read what `Serial` says. All of it is this project's choice.
use Rattle.std.specs.Prelude.{◌≡◌, ◌≢◌, ℕ, ◌≤◌, if◌then◌else◌, List, [], ◌∷◌, Some, Option, ⊤}
use Rattle.std.specs.List.{Contains, AllPairs, flat_map}
use Rattle.si_model.specs.declared.numbers.Stamp.{Stamp}
use Rattle.si_model.specs.declared.numbers.Value.{Value}
use Rattle.si_model.specs.declared.operations.Op.{Op}
use Rattle.si_model.specs.declared.operations.Op.TheVariants as op
use Rattle.si_model.specs.declared.transactions.Status.TheVariants as status
use Rattle.si_model.specs.declared.transactions.Txn.{Txn}
use Rattle.si_model.specs.Operations.{same_key}
use Rattle.si_model.specs.Parts.{Present, set_up_value}
use Rattle.si_graph.specs.Serial.{Commits}

-- what each key holds, if it holds a value
abbrev pub State : Type 0
State = List ℕ → Option Value

-- before the run: what the keys were set up with
abbrev pub at_first : Present → State
at_first P = λ x. set_up_value x P.initial

-- after one more operation: a write leaves its value in its key
abbrev pub after_op : State → Op → State
after_op s (op.Read x v) = s
after_op s (op.Write x v) = λ y. if same_key x y then Some v else s y

-- a read returned what its key holds
abbrev pub ReturnsHeld : State → Op → Type 0
ReturnsHeld s (op.Read x v) = v ≡ s x
ReturnsHeld s (op.Write x v) = ⊤

-- the operations run one after another from that state
abbrev pub Runs : State → List Op → Type 0
Runs s [] = ⊤
Runs s (p ∷ ps) = ReturnsHeld s p × Runs (after_op s p) ps

-- A may run before B: they are two transactions, and A's commit stamp is no greater
pub record MayPrecede (A B : Txn) : Type 0 where
  pub differ : A.id ≢ B.id
  pub before : (c d : Stamp) → A.status ≡ status.Committed c → B.status ≡ status.Committed d → c.0 ≤ d.0

-- the committed transactions, each once, in the order of their commit stamps; those that share one, as readers may, in any order
pub record AreInOrder (P : Present) (run : List Txn) : Type 0 where
  pub within : (T : Txn) → Contains run T → (c : Stamp) × Commits P T c
  pub all : (T : Txn) (c : Stamp) → Commits P T c → Contains run T
  pub ordered : AllPairs MayPrecede run

-- they run one after another, each with all of its operations
abbrev pub IsRun : Present → List Txn → Type 0
IsRun P run = Runs (at_first P) (flat_map (λ T. T.ops) run)
