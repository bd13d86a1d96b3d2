-- What a horizon is: whatever comes later starts at it or later. What lies below it is gone then, and what is carried over it is a
-- history again, in which each key's initial version is the last one that was installed below. All of it is this project's choice.
use Rattle.std.specs.Prelude.{◌≡◌, ◌≢◌, ◌↔◌, ◌⊎◌, ℕ, ◌<◌, ◌≤◌, Bool, false, if◌then◌else◌, nat_lt, List, [], ◌∷◌, ◌++◌, map, Some, None, Option}
use Rattle.std.specs.List.{Contains, filter, filter_map, flat_map}
use Rattle.std.specs.Option.{option_or, option_map}
use Rattle.std.specs.Ordering.{nat_cmp}
use Rattle.std.specs.Cmp.Lexicographic.{slice_cmp}
use Rattle.si_model.specs.declared.numbers.TxnId.{TxnId}
use Rattle.si_model.specs.declared.numbers.Stamp.{Stamp}
use Rattle.si_model.specs.declared.numbers.Value.{Value}
use Rattle.si_model.specs.declared.transactions.Status.{Status}
use Rattle.si_model.specs.declared.transactions.Status.TheVariants as status
use Rattle.si_model.specs.declared.transactions.Txn.{Txn}
use Rattle.si_model.specs.declared.edits.Edit.{Edit}
use Rattle.si_model.specs.declared.kinds.Kind.{Kind}
use Rattle.si_model.specs.declared.kinds.Kind.TheVariants as kind
use Rattle.si_model.specs.declared.edits.Edit.TheVariants as edit
use Rattle.si_model.specs.Operations.{is_write}
use Rattle.si_model.specs.Parts.{Present, accesses, set_up_value}
use Rattle.si_model.specs.Versions.{commit_of, last_write}
use Rattle.si_model.specs.Order.{in_order}
use Rattle.si_model.specs.Findings.{keys_in}
use Rattle.si_model.specs.History.{WritesPairAt}

-- ---- what is gone, and what is carried over

-- T committed below the horizon
abbrev pub CommitsBelow : Stamp → Txn → Type 0
CommitsBelow H T = (c : Stamp) × (T.status ≡ status.Committed c) × (c.0 < H.0)

-- T is gone: it committed below the horizon, or it aborted and started below it
abbrev pub IsGone : Stamp → Txn → Type 0
IsGone H T = CommitsBelow H T ⊎ ((T.status ≡ status.Aborted) × (T.start.0 < H.0))

-- T started below the horizon, and committed at it or later
abbrev pub IsSpanning : Stamp → Txn → Type 0
IsSpanning H T = (c : Stamp) × (T.status ≡ status.Committed c) × (T.start.0 < H.0) × (H.0 ≤ c.0)

-- T with its writes alone, in their order
abbrev pub writes_alone : Txn → Txn
writes_alone T = record T { ops = filter is_write T.ops }

-- U is what is carried over of T, which isn't gone: its writes alone where it spans the horizon, and else all of it
pub record IsRest (H : Stamp) (T U : Txn) : Type 0 where
  pub writes : IsSpanning H T → U ≡ writes_alone T
  pub whole : (IsSpanning H T → ⊥) → U ≡ T

-- T writes the key
abbrev pub WritesKey : Txn → List ℕ → Type 0
WritesKey T x = (i : ℕ) × (v : Value) × WritesPairAt T i x v

-- T's last write of the key, its final modification, writes v
pub record IsLastWriteOf (T : Txn) (x : List ℕ) (v : Value) : Type 0 where
  pub place : ℕ
  pub is : WritesPairAt T place x v
  pub last : (j : ℕ) (w : Value) → WritesPairAt T j x w → j ≤ place

-- T committed below the horizon and writes the key, and no other such one commits later
pub record IsBelow (P : Present) (H : Stamp) (x : List ℕ) (T : Txn) : Type 0 where
  pub present : Contains P.txns T
  pub commit : Stamp
  pub committed : T.status ≡ status.Committed commit
  pub below : commit.0 < H.0
  pub writes : WritesKey T x
  pub last : (U : Txn) (c : Stamp) → Contains P.txns U → U.status ≡ status.Committed c → c.0 < H.0 → WritesKey U x → c.0 ≤ commit.0

-- over the horizon the key is set up with v: it is the last value that was installed below, or none was, and the key was set up with v
abbrev pub IsInitialOver : Present → Stamp → List ℕ → Value → Type 0
IsInitialOver P H x v = ((T : Txn) × IsBelow P H x T × IsLastWriteOf T x v) ⊎ (((T : Txn) → IsBelow P H x T → ⊥) × Contains P.initial (x, v))

-- Q is what is carried over the horizon of what is present
pub record IsCarried (P : Present) (H : Stamp) (Q : Present) : Type 0 where
  pub txns : (U : Txn) → Contains Q.txns U ↔ ((T : Txn) × Contains P.txns T × (IsGone H T → ⊥) × IsRest H T U)
  pub initial : (x : List ℕ) (v : Value) → Contains Q.initial (x, v) ↔ IsInitialOver P H x v

-- ---- what may come later

-- no transaction that started below the horizon is in doubt
abbrev pub HasNoDoubtBelow : Stamp → Present → Type 0
HasNoDoubtBelow H P = (T : Txn) → Contains P.txns T → T.start.0 < H.0 → T.status ≢ status.InDoubt

-- the transaction u is settled: it is present and not in doubt
abbrev pub IsSettled : Present → TxnId → Type 0
IsSettled P u = (T : Txn) × Contains P.txns T × (T.id ≡ u) × (T.status ≢ status.InDoubt)

-- the list has the settled transactions
abbrev pub ListsSettled : Present → List TxnId → Type 0
ListsSettled P settled = (u : TxnId) → Contains settled u ↔ IsSettled P u

-- the edit may come behind the horizon: what arrives starts at it or later, what is withdrawn isn't settled, and no key is set up
abbrev pub IsLate : Stamp → List TxnId → Edit → Type 0
IsLate H settled (edit.Arrive T) = H.0 ≤ T.start.0
IsLate H settled (edit.Resolve u o) = Unit {0}
IsLate H settled (edit.Withdraw u) = Contains settled u → ⊥
IsLate H settled (edit.SetUp x v) = ⊥

-- ---- what is told otherwise

-- the transaction t is present and started below the horizon
abbrev pub StartsBelow : Present → Stamp → TxnId → Type 0
StartsBelow P H t = (T : Txn) × Contains P.txns T × (T.id ≡ t) × (T.start.0 < H.0)

-- a finding of that kind is of a read of a transaction that started below the horizon, or of two versions of which the first was installed
-- below it
abbrev pub IsOfBelow : Present → Stamp → Kind → Type 0
IsOfBelow P H (kind.Unknown t i v) = StartsBelow P H t
IsOfBelow P H (kind.Doubt t i v u) = StartsBelow P H t
IsOfBelow P H (kind.Own t i v w) = StartsBelow P H t
IsOfBelow P H (kind.Aborted t i v u) = StartsBelow P H t
IsOfBelow P H (kind.Intermediate t i v u) = StartsBelow P H t
IsOfBelow P H (kind.Future t i v u) = StartsBelow P H t
IsOfBelow P H (kind.Stale t i v n) = StartsBelow P H t
IsOfBelow P H (kind.Overlap a b) = (T : Txn) × Contains P.txns T × (T.id ≡ a) × CommitsBelow H T

-- the kind of a read is told as the other where the value's writer is gone: as unknown, if it was aborted, intermediate or stale
abbrev pub IsToldAs : Kind → Kind → Type 0
IsToldAs (kind.Aborted t i v u) j = j ≡ kind.Unknown t i v
IsToldAs (kind.Intermediate t i v u) j = j ≡ kind.Unknown t i v
IsToldAs (kind.Stale t i v n) j = j ≡ kind.Unknown t i v
IsToldAs (kind.Unknown t i v) j = ⊥
IsToldAs (kind.Doubt t i v u) j = ⊥
IsToldAs (kind.Own t i v w) j = ⊥
IsToldAs (kind.Future t i v u) j = ⊥
IsToldAs (kind.Overlap a b) j = ⊥

-- what a finding of that kind is of: a read, by its transaction and its place, or the second of two versions, by its transaction alone
abbrev pub subject : Kind → TxnId × Option ℕ
subject (kind.Unknown t i v) = (t, Some i)
subject (kind.Doubt t i v u) = (t, Some i)
subject (kind.Own t i v w) = (t, Some i)
subject (kind.Aborted t i v u) = (t, Some i)
subject (kind.Intermediate t i v u) = (t, Some i)
subject (kind.Future t i v u) = (t, Some i)
subject (kind.Stale t i v n) = (t, Some i)
subject (kind.Overlap a b) = (b, None)

-- ---- the same as functions

-- what is carried over of a transaction with that status, if anything is
abbrev pub rest_by : Stamp → Txn → Status → Option Txn
rest_by H T (status.Committed c) = if nat_lt c.0 H.0 then None else Some (if nat_lt T.start.0 H.0 then writes_alone T else T)
rest_by H T status.Aborted = if nat_lt T.start.0 H.0 then None else Some T
rest_by H T status.InDoubt = Some T

-- what is carried over of T, if anything is
abbrev pub rest : Stamp → Txn → Option Txn
rest H T = rest_by H T T.status

-- whether there is a stamp, and it is below the horizon
abbrev pub is_stamp_below : Stamp → Option Stamp → Bool
is_stamp_below H None = false
is_stamp_below H (Some c) = nat_lt c.0 H.0

-- whether T committed below the horizon
abbrev pub commits_below : Stamp → Txn → Bool
commits_below H T = is_stamp_below H (commit_of T.status)

-- a commit stamp and the value that was installed there, where there are both
abbrev pub installed : Option Stamp → Option Value → Option (Stamp × Value)
installed (Some c) (Some v) = Some (c, v)
installed (Some c) None = None
installed None v = None

-- the one with the greater stamp
abbrev pub later_one : Option (Stamp × Value) → Option (Stamp × Value) → Option (Stamp × Value)
later_one None n = n
later_one (Some m) None = Some m
later_one (Some m) (Some n) = if nat_lt m.0.0 n.0.0 then Some n else Some m

-- of what the transactions installed of the key, that with the greatest stamp
abbrev pub last_installed : List ℕ → List Txn → Option (Stamp × Value)
last_installed x [] = None
last_installed x (T ∷ txns) = later_one (installed (commit_of T.status) (last_write (accesses x T.ops))) (last_installed x txns)

-- the value that the key is set up with after these transactions, if it is
abbrev pub value_after : List Txn → List (List ℕ × Value) → List ℕ → Option Value
value_after old initial x = option_or (option_map (λ n. n.1) (last_installed x old)) (set_up_value x initial)

-- the keys of these transactions and of what was set up, in order
abbrev pub keys_after : List Txn → List (List ℕ × Value) → List (List ℕ)
keys_after old initial = in_order (slice_cmp nat_cmp) (flat_map keys_in old ++ map (λ p. p.0) initial)

-- what is set up after these transactions, by the keys in order
unfoldable pub initial_after : List Txn → List (List ℕ × Value) → List (List ℕ × Value)
initial_after old initial = filter_map (λ x. option_map (λ v. (x, v)) (value_after old initial x)) (keys_after old initial)

-- what is carried over the horizon
unfoldable pub carried : Stamp → Present → Present
carried H P = record { txns = filter_map (rest H) P.txns; initial = initial_after (filter (commits_below H) P.txns) P.initial }

-- the edits that make what is present out of nothing: its set-ups, then its arrivals
unfoldable pub making : Present → List Edit
making Q = map (λ p. edit.SetUp p.0 p.1) Q.initial ++ map edit.Arrive Q.txns
