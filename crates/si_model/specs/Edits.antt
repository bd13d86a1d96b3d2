-- Why an edit isn't accepted, and what it leaves present. All of it is this project's choice.
use Rattle.std.specs.Prelude.{◌≡◌, ℕ, ◌+◌, ◌<◌, ◌≤◌, Bool, true, false, not, ◌||◌, if◌then◌else◌, nat_eq, nat_lt, nat_le}
use Rattle.std.specs.Prelude.{List, [], ◌∷◌, ◌++◌, map, take, Some, None, Option, is_some, slice_get}
use Rattle.std.specs.List.{Contains, filter, find, list_any, fold}
use Rattle.std.specs.Option.{option_or, option_map, option_eq}
use Rattle.si_model.specs.declared.numbers.TxnId.{TxnId}
use Rattle.si_model.specs.declared.numbers.Stamp.{Stamp}
use Rattle.si_model.specs.declared.numbers.Value.{Value}
use Rattle.si_model.specs.declared.operations.Op.{Op}
use Rattle.si_model.specs.declared.operations.Op.TheVariants as op
use Rattle.si_model.specs.declared.transactions.Status.{Status}
use Rattle.si_model.specs.declared.transactions.Status.TheVariants as status
use Rattle.si_model.specs.declared.transactions.Outcome.{Outcome}
use Rattle.si_model.specs.declared.transactions.Outcome.TheVariants as outcome
use Rattle.si_model.specs.declared.transactions.Txn.{Txn}
use Rattle.si_model.specs.declared.edits.Edit.{Edit}
use Rattle.si_model.specs.declared.edits.Edit.TheVariants as edit
use Rattle.si_model.specs.declared.refusals.Refusal.{Refusal}
use Rattle.si_model.specs.declared.refusals.Refusal.TheVariants as refusal
use Rattle.si_model.specs.Operations.{same_value, same_write}
use Rattle.si_model.specs.Parts.{Present, writes_pair_of, writes_some, set_up_value}
use Rattle.si_model.specs.Versions.{commit_of}

-- ---- who holds what of the transactions that are present

-- whether two ids are equal
abbrev pub same_id : TxnId → TxnId → Bool
same_id u w = nat_eq u.0 w.0

-- whether two stamps are equal
abbrev pub same_stamp : Stamp → Stamp → Bool
same_stamp s c = nat_eq s.0 c.0

-- the present transaction with that id
abbrev pub with_id : List Txn → TxnId → Option Txn
with_id txns u = find (λ T. same_id T.id u) txns

-- the commit stamp of a transaction that writes, which is a stamp of its own
abbrev pub install_stamp : Txn → Option Stamp
install_stamp T = if writes_some T then commit_of T.status else None

-- whether T writes and commits at the stamp
abbrev pub installs_at : Stamp → Txn → Bool
installs_at s T = option_eq same_stamp (install_stamp T) (Some s)

-- whether T starts or commits at the stamp
abbrev pub has_stamp : Stamp → Txn → Bool
has_stamp s T = same_stamp T.start s || option_eq same_stamp (commit_of T.status) (Some s)

-- the lesser id
abbrev pub lesser : Option TxnId → TxnId → Option TxnId
lesser None u = Some u
lesser (Some w) u = if nat_lt u.0 w.0 then Some u else Some w

-- the least id of those that pass the test
unfoldable pub least_id : (Txn → Bool) → List Txn → Option TxnId
least_id holds txns = fold (λ least T. if holds T then lesser least T.id else least) None txns

-- the id is the least of those that pass the test, or there is none where none passes
abbrev pub IsLeastId : (Txn → Bool) → List Txn → Option TxnId → Type 0
IsLeastId holds txns None = (T : Txn) → Contains txns T → holds T ≡ false
IsLeastId holds txns (Some u) = ((T : Txn) × Contains txns T × (holds T ≡ true) × (T.id ≡ u)) × ((T : Txn) → Contains txns T → holds T ≡ true → u.0 ≤ T.id.0)

-- the id of the transaction that writes the pair which the operation writes, if it writes one
abbrev pub writer_of_pair : Op → List Txn → Option TxnId
writer_of_pair (op.Read x v) txns = None
writer_of_pair (op.Write x v) txns = option_map (λ T. T.id) (find (writes_pair_of (op.Write x v)) txns)

-- ---- reasons against an edit

-- what the first operation gives that gives anything, the first of the list being at the place i
abbrev pub first_at : (ℕ → Op → Option Refusal) → ℕ → List Op → Option Refusal
first_at f i [] = None
first_at f i (p ∷ ps) = option_or (f i p) (first_at f (i + 1) ps)

-- r is given at a place, and nothing at those before it; or there is none where nothing is given
abbrev pub IsFirst : (ℕ → Op → Option Refusal) → List Op → Option Refusal → Type 0
IsFirst f ps None = (i : ℕ) (p : Op) → slice_get ps i ≡ Some p → f i p ≡ None
IsFirst f ps (Some r) = (i : ℕ) × (p : Op) × (slice_get ps i ≡ Some p) × (f i p ≡ Some r) × ((j : ℕ) (q : Op) → j < i → slice_get ps j ≡ Some q → f j q ≡ None)

-- whether a commit may follow a start: it is greater, or equal to it where the transaction writes nothing
abbrev pub is_forward : Bool → Stamp → Stamp → Bool
is_forward writes s c = if writes then nat_lt s.0 c.0 else nat_le s.0 c.0

-- the commit may not follow the start
abbrev pub order_refusal : Bool → Stamp → Option Stamp → Option Refusal
order_refusal writes s None = None
order_refusal writes s (Some c) = if is_forward writes s c then None else Some refusal.StampOrder

-- the start equals the commit stamp of a present transaction that writes
abbrev pub start_refusal : List Txn → Stamp → Option Refusal
start_refusal txns s = option_map (λ u. refusal.StampTaken s u) (least_id (installs_at s) txns)

-- whether a commit at the stamp of a transaction, which writes or doesn't, may not be beside T
abbrev pub clashes : Bool → Stamp → Txn → Bool
clashes writes c T = if writes then has_stamp c T else installs_at c T

-- the commit equals the commit stamp of a present transaction that writes, or it is of one that writes and equals a stamp of a present one
abbrev pub commit_refusal : List Txn → Bool → Option Stamp → Option Refusal
commit_refusal txns writes None = None
commit_refusal txns writes (Some c) = option_map (λ u. refusal.StampTaken c u) (least_id (clashes writes c) txns)

-- the operation at the place i writes a pair which an earlier one writes
abbrev pub twice_at : List Op → ℕ → Op → Option Refusal
twice_at ops i p = if list_any (same_write p) (take i ops) then Some (refusal.ValueTwice i) else None

-- the operation at the place i writes a pair which a present transaction writes
abbrev pub taken_at : List Txn → ℕ → Op → Option Refusal
taken_at txns i p = option_map (λ u. refusal.ValueTaken i u) (writer_of_pair p txns)

-- whether the operation writes a pair that was set up
abbrev pub is_set_up : List (List ℕ × Value) → Op → Bool
is_set_up initial (op.Read x v) = false
is_set_up initial (op.Write x v) = option_eq same_value (set_up_value x initial) (Some v)

-- the operation at the place i writes a pair which was set up
abbrev pub set_up_at : List (List ℕ × Value) → ℕ → Op → Option Refusal
set_up_at initial i p = if is_set_up initial p then Some (refusal.ValueSetUp i) else None

-- ---- the first reason against an edit, as a table

-- the first that there is
abbrev pub first_of : List (Option Refusal) → Option Refusal
first_of [] = None
first_of (r ∷ rs) = option_or r (first_of rs)

-- against an arrival: its id is present; its commit may not follow its start; its start is taken; its commit is taken; it writes a
-- pair twice; a pair is taken; a pair was set up
abbrev pub arrival_refusal : Present → Txn → Option Refusal
arrival_refusal P T = first_of (
    (if is_some (with_id P.txns T.id) then Some refusal.IdPresent else None)
    ∷ order_refusal (writes_some T) T.start (commit_of T.status)
    ∷ start_refusal P.txns T.start
    ∷ commit_refusal P.txns (writes_some T) (commit_of T.status)
    ∷ first_at (twice_at T.ops) 0 T.ops
    ∷ first_at (taken_at P.txns) 0 T.ops
    ∷ first_at (set_up_at P.initial) 0 T.ops
    ∷ [])

-- whether it isn't known what became of the transaction
abbrev pub is_in_doubt : Status → Bool
is_in_doubt (status.Committed c) = false
is_in_doubt status.Aborted = false
is_in_doubt status.InDoubt = true

-- the status of a transaction in doubt once it is resolved
abbrev pub status_after : Outcome → Status
status_after (outcome.Committed c) = status.Committed c
status_after outcome.Aborted = status.Aborted

-- against a resolution of T: it isn't in doubt; its commit may not follow its start; its commit is taken
abbrev pub resolution_refusal_of : List Txn → Outcome → Txn → Option Refusal
resolution_refusal_of txns o T = first_of (
    (if is_in_doubt T.status then None else Some refusal.NotInDoubt)
    ∷ order_refusal (writes_some T) T.start (commit_of (status_after o))
    ∷ commit_refusal txns (writes_some T) (commit_of (status_after o))
    ∷ [])

-- against a resolution: no transaction has the id; or against that of the transaction that has it
abbrev pub resolution_refusal : List Txn → Outcome → Option Txn → Option Refusal
resolution_refusal txns o None = Some refusal.NoSuch
resolution_refusal txns o (Some T) = resolution_refusal_of txns o T

-- against a withdrawal: no transaction has the id
abbrev pub withdrawal_refusal : List Txn → TxnId → Option Refusal
withdrawal_refusal txns u = if is_some (with_id txns u) then None else Some refusal.NoSuch

-- against a set-up: the key is set up; the pair is taken
abbrev pub set_up_refusal : Present → List ℕ → Value → Option Refusal
set_up_refusal P x v = first_of (
    (if is_some (set_up_value x P.initial) then Some refusal.SetUpTwice else None)
    ∷ option_map refusal.SetUpTaken (writer_of_pair (op.Write x v) P.txns)
    ∷ [])

-- the first reason against an edit of what is present, the journal's limit aside
unfoldable pub refusal_on : Present → Edit → Option Refusal
refusal_on P (edit.Arrive T) = arrival_refusal P T
refusal_on P (edit.Resolve u o) = resolution_refusal P.txns o (with_id P.txns u)
refusal_on P (edit.Withdraw u) = withdrawal_refusal P.txns u
refusal_on P (edit.SetUp x v) = set_up_refusal P x v

-- nothing stands against the edit, the journal's limit aside
abbrev pub IsAcceptable : Present → Edit → Type 0
IsAcceptable P e = refusal_on P e ≡ None

-- ---- what an edit leaves

-- T, resolved if its id is u
abbrev pub resolved : TxnId → Outcome → Txn → Txn
resolved u o T = if same_id T.id u then record T { status = status_after o } else T

-- whether T isn't the transaction u
abbrev pub is_another : TxnId → Txn → Bool
is_another u T = not (same_id T.id u)

-- what is present after the edit: an arrival comes last, a resolution is in place, a withdrawal closes up, a set-up comes last
unfoldable pub after : Edit → Present → Present
after (edit.Arrive T) P = record P { txns = P.txns ++ T ∷ [] }
after (edit.Resolve u o) P = record P { txns = map (resolved u o) P.txns }
after (edit.Withdraw u) P = record P { txns = filter (is_another u) P.txns }
after (edit.SetUp x v) P = record P { initial = P.initial ++ (x, v) ∷ [] }

-- the edit's id is as the edit asks: absent for an arrival, in doubt for a resolution, present for a withdrawal
abbrev pub AsksRightly : Present → Edit → Type 0
AsksRightly P (edit.Arrive T) = (U : Txn) → Contains P.txns U → U.id ≡ T.id → ⊥
AsksRightly P (edit.Resolve u o) = (T : Txn) × Contains P.txns T × (T.id ≡ u) × (T.status ≡ status.InDoubt)
AsksRightly P (edit.Withdraw u) = (T : Txn) × Contains P.txns T × (T.id ≡ u)
AsksRightly P (edit.SetUp x v) = Unit {0}
