-- What the edits of a journal made of the keys of one shard. All of it is this project's choice.
use Rattle.std.specs.Prelude.{◌≡◌, ℕ, ◌≤◌, true, false, length, take, List, [], ◌∷◌, ◌++◌, Some, None, Option}
use Rattle.std.specs.List.{Contains, filter}
use Rattle.std.specs.Option.{option_map}
use Rattle.si_model.specs.declared.operations.Op.{Op}
use Rattle.si_model.specs.declared.parts.Part.{Part}
use Rattle.si_model.specs.declared.parts.Placed.{Placed}
use Rattle.si_model.specs.declared.transactions.Txn.{Txn}
use Rattle.si_model.specs.declared.edits.Edit.{Edit}
use Rattle.si_model.specs.declared.edits.Edit.TheVariants as edit
use Rattle.si_model.specs.declared.findings.Finding.{Finding}
use Rattle.si_model.specs.Findings.{findings}
use Rattle.si_model.specs.Parts.{accesses, on_key}
use Rattle.si_model.specs.Journals.{IsAccepted, present}
use Rattle.si_accept.specs.Notes.{txn_before}
use Rattle.si_judge.specs.Following.{empty_key}
use Rattle.si_shard.specs.declared.shard_ids.ShardId.{ShardId}
use Rattle.si_shard.specs.declared.applied_edits.Applied.{Applied}
use Rattle.si_shard.specs.declared.key_changes.TxnHead.{TxnHead}
use Rattle.si_shard.specs.declared.key_changes.KnownTxn.{KnownTxn}
use Rattle.si_shard.specs.declared.key_changes.Change.{Change}
use Rattle.si_shard.specs.declared.key_changes.Change.TheVariants as change
use Rattle.si_shard.specs.ShardIds.{is_ours}
use Rattle.si_shard.specs.declared.key_states.KeyStates.{KeyStates}
use Rattle.si_shard.specs.KeyStates.{IsOn, WereFoundOn}

-- what is found on the keys of the shard after these edits, and after the first n of them
abbrev pub found_after : ShardId → List Edit → List Finding
found_after id edits = filter (λ f. is_ours id f.key) (findings (present edits))

abbrev pub found_first : ShardId → List Edit → ℕ → List Finding
found_first id edits n = found_after id (take n edits)

-- what comes and goes is noted since the first n of the edits were applied
pub record AreNotedSince (id : ShardId) (edits : List Edit) (n : ℕ) (ks : KeyStates) : Type 0 where
  pub within : n ≤ length edits
  pub found : WereFoundOn (found_first id edits n) ks

-- what the edits made of the shard: on each of its keys is what is present there, but that reads may be marked, and on other keys nothing;
-- and what comes and goes is noted since so many of them, if it is noted
pub record AreApplied (id : ShardId) (edits : List Edit) (a : Applied) : Type 0 where
  pub ours : (x : List ℕ) → is_ours id x ≡ true → IsOn a.keys x (on_key x (present edits))
  pub others : (x : List ℕ) → is_ours id x ≡ false → IsOn a.keys x empty_key
  pub noted : (n : ℕ) → a.noted ≡ Some n → AreNotedSince id edits n a.keys

-- so, and no reads are marked
pub record AreSettled (id : ShardId) (edits : List Edit) (a : Applied) : Type 0 where
  pub applied : AreApplied id edits a
  pub settled : a.keys.marked.items ≡ []

-- ---- one edit

-- a transaction as it is before an edit: all but its operations, and these
abbrev pub TxnBefore : Type 0
TxnBefore = TxnHead × List Op

-- what the program knows so of a transaction, if there is one
abbrev pub known : Option KnownTxn → Option TxnBefore
known None = None
known (Some t) = Some (t.head, t.ops.now)

-- all of a transaction
abbrev pub whole_txn : Txn → TxnBefore
whole_txn T = (record { id = T.id; start = T.start; status = T.status }, T.ops)

-- the edit's transaction, if there is one, of which this is told where the edit resolves or withdraws one
abbrev pub txn_told : Edit → Option Txn → Option TxnBefore
txn_told (edit.Arrive T) before = Some (whole_txn T)
txn_told (edit.Resolve u o) before = option_map whole_txn before
txn_told (edit.Withdraw u) before = option_map whole_txn before
txn_told (edit.SetUp x v) before = None

-- the edit may come after these, and its transaction was this one before
pub record IsNext (edits : List Edit) (e : Edit) (before : Option Txn) : Type 0 where
  pub accepted : IsAccepted (edits ++ e ∷ [])
  pub before_is : before ≡ txn_before (present edits) e

-- what the transaction does on a key that it accesses so
abbrev pub part_by : TxnHead → List Placed → Part
part_by h ys = record { id = h.id; start = h.start; status = h.status; accesses = ys }

-- what the edit of the transaction h is on a key that this accesses so
abbrev pub change_by : TxnHead → Edit → List Placed → Change
change_by h (edit.Arrive T) ys = change.Arrive (part_by h ys)
change_by h (edit.Resolve u o) ys = change.Resolve (part_by h ys) o
change_by h (edit.Withdraw u) ys = change.Withdraw (part_by h ys)
change_by h (edit.SetUp x v) ys = change.SetUp v

-- the transaction, if there is one, does something on the key x, and this is what the edit is there
abbrev pub IsAccessChange : Option TxnBefore → Edit → List ℕ → Change → Type 0
IsAccessChange None e x c = ⊥
IsAccessChange (Some t) e x c = (a : Placed) × Contains (accesses x t.1) a × (c ≡ change_by t.0 e (accesses x t.1))

-- what the edit, whose transaction this is, is on the key x
abbrev pub IsChangeOn : Option TxnBefore → Edit → List ℕ → Change → Type 0
IsChangeOn t (edit.Arrive T) x c = IsAccessChange t (edit.Arrive T) x c
IsChangeOn t (edit.Resolve u o) x c = IsAccessChange t (edit.Resolve u o) x c
IsChangeOn t (edit.Withdraw u) x c = IsAccessChange t (edit.Withdraw u) x c
IsChangeOn t (edit.SetUp y v) x c = (x ≡ y) × (c ≡ change.SetUp v)
