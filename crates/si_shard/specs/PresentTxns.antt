-- The transactions that are present, by their ids. All of it is this project's choice.
use Rattle.std.specs.Prelude.{◌≡◌, ℕ, nat_eq, if◌then◌else◌, List, Some, None, Option}
use Rattle.std.specs.Option.{option_map}
use Rattle.si_model.specs.declared.numbers.TxnId.{TxnId}
use Rattle.si_model.specs.declared.transactions.Outcome.{Outcome}
use Rattle.si_model.specs.declared.transactions.Txn.{Txn}
use Rattle.si_model.specs.declared.edits.Edit.{Edit}
use Rattle.si_model.specs.declared.edits.Edit.TheVariants as edit
use Rattle.si_model.specs.Edits.{status_after, with_id}
use Rattle.si_model.specs.Journals.{present}

-- under each id stands the transaction that is present after the edits and has it, and nothing else
abbrev pub AreById : List Edit → (ℕ → Option Txn) → Type 0
AreById edits at = (u : TxnId) → at u.0 ≡ with_id (present edits).txns u

-- the transaction that the edit resolves or withdraws
abbrev pub txn_asked : Edit → (ℕ → Option Txn) → Option Txn
txn_asked (edit.Arrive T) at = None
txn_asked (edit.Resolve u o) at = at u.0
txn_asked (edit.Withdraw u) at = at u.0
txn_asked (edit.SetUp x v) at = None

-- a transaction after it was resolved
abbrev pub resolved_to : Outcome → Txn → Txn
resolved_to o T = record T { status = status_after o }

-- an arrival is entered, a resolution as its status, and of a withdrawn transaction nothing stays
abbrev pub txns_entered : Edit → (ℕ → Option Txn) → ℕ → Option Txn
txns_entered (edit.Arrive T) at n = if nat_eq T.id.0 n then Some T else at n
txns_entered (edit.Resolve u o) at n = if nat_eq u.0 n then option_map (resolved_to o) (at n) else at n
txns_entered (edit.Withdraw u) at n = if nat_eq u.0 n then None else at n
txns_entered (edit.SetUp x v) at n = at n

abbrev pub EntersTxn : Edit → (ℕ → Option Txn) → (ℕ → Option Txn) → Type 0
EntersTxn e old new = (n : ℕ) → new n ≡ txns_entered e old n
