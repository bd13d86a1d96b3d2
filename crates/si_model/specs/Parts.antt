-- What is present, and what of it is on one key. All of it is this project's choice.
use Rattle.std.specs.Prelude.{ℕ, Bool, if◌then◌else◌, List, [], ◌∷◌, Some, None, Option}
use Rattle.std.specs.List.{filter_map, enumerate_from, find, list_any}
use Rattle.std.specs.Option.{option_map}
use Rattle.si_model.specs.declared.numbers.Value.{Value}
use Rattle.si_model.specs.declared.operations.Op.{Op}
use Rattle.si_model.specs.declared.transactions.Txn.{Txn}
use Rattle.si_model.specs.declared.parts.Placed.{Placed}
use Rattle.si_model.specs.declared.parts.Part.{Part}
use Rattle.si_model.specs.declared.parts.OnKey.{OnKey}
use Rattle.si_model.specs.Operations.{key_of, access_of, is_write, same_key, same_write}

-- what is present: transactions, and the values that keys were set up with before the run
pub record Present : Type 0 where
  pub txns : List Txn
  pub initial : List (List ℕ × Value)

-- whether T writes the pair that the operation writes
abbrev pub writes_pair_of : Op → Txn → Bool
writes_pair_of p T = list_any (same_write p) T.ops

-- whether T writes at all
abbrev pub writes_some : Txn → Bool
writes_some T = list_any is_write T.ops

-- an operation on the key, with its place
abbrev pub placed_at : List ℕ → ℕ × Op → Option Placed
placed_at x e = if same_key (key_of e.1) x then Some (record { place = e.0; access = access_of e.1 }) else None

-- the accesses of the key, each with its place, in their order
abbrev pub accesses : List ℕ → List Op → List Placed
accesses x ops = filter_map (placed_at x) (enumerate_from 0 ops)

-- the transaction with these accesses, if there are any
abbrev pub part_with : Txn → List Placed → Option Part
part_with T [] = None
part_with T (a ∷ ys) = Some (record { id = T.id; start = T.start; status = T.status; accesses = a ∷ ys })

-- what the transaction does on the key, if it does anything there
unfoldable pub part : List ℕ → Txn → Option Part
part x T = part_with T (accesses x T.ops)

-- what the transactions do on the key
abbrev pub parts : List ℕ → List Txn → List Part
parts x txns = filter_map (part x) txns

-- the value that the key was set up with, if it was
unfoldable pub set_up_value : List ℕ → List (List ℕ × Value) → Option Value
set_up_value x initial = option_map (λ pair. pair.1) (find (λ pair. same_key pair.0 x) initial)

-- what is present on the key
abbrev pub on_key : List ℕ → Present → OnKey
on_key x P = record { initial = set_up_value x P.initial; parts = parts x P.txns }
