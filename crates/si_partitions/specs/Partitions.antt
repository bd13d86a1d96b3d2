-- Which keys a partition has, and what it keeps of edits and of what is present. All of it is this project's choice.
use Rattle.std.specs.Prelude.{◌≡◌, ℕ, ◌*◌, ◌/◌, ◌%◌, Bool, true, nat_eq, List, [], None, length, map, take}
use Rattle.std.specs.List.{Contains, filter}
use Rattle.si_model.specs.declared.edits.Edit.{Edit}
use Rattle.si_model.specs.declared.edits.Edit.TheVariants as edit
use Rattle.si_model.specs.declared.kinds.Kind.{Kind}
use Rattle.si_model.specs.declared.kinds.Kind.TheVariants as kind
use Rattle.si_model.specs.declared.operations.Op.{Op}
use Rattle.si_model.specs.declared.refusals.Refusal.{Refusal}
use Rattle.si_model.specs.declared.refusals.Refusal.TheVariants as refusal
use Rattle.si_model.specs.declared.transactions.Txn.{Txn}
use Rattle.si_model.specs.KeyTexts.{shard_hash}
use Rattle.si_model.specs.Operations.{key_of}
use Rattle.si_model.specs.Parts.{Present, set_up_value}
use Rattle.si_partitions.specs.declared.partitions.Partition.{Partition}

-- ---- the keys of a partition

-- the partition of a key among so many: the hash of its shard is spread over 32 bits, and these are cut into ranges of one length
abbrev pub partition_number : List ℕ → ℕ → ℕ
partition_number key count = (shard_hash key * 2654435769 % 4294967296) * count / 4294967296

-- whether the partition has the key
abbrev pub has_key : Partition → List ℕ → Bool
has_key p x = nat_eq (partition_number x p.count) p.index

-- whether the operation is on such a key
abbrev pub has_op : Partition → Op → Bool
has_op p o = has_key p (key_of o)

-- ---- what it keeps

-- T with its operations on keys of the partition alone: it stays a transaction where it has none
abbrev pub projected : Partition → Txn → Txn
projected p T = record T { ops = filter (has_op p) T.ops }

-- the edit, with those operations alone; a set-up of any key takes its place in the journal
abbrev pub projected_edit : Partition → Edit → Edit
projected_edit p (edit.Arrive T) = edit.Arrive (projected p T)
projected_edit p (edit.Resolve u o) = edit.Resolve u o
projected_edit p (edit.Withdraw u) = edit.Withdraw u
projected_edit p (edit.SetUp x v) = edit.SetUp x v

-- what is present, with those operations alone
abbrev pub projected_present : Partition → Present → Present
projected_present p P = record { txns = map (projected p) P.txns; initial = P.initial }

-- Q is what is present in the partition where P is: it has P's transactions, with those operations alone, what P has set up its own keys with, and
-- no other key set up than P has
pub record IsPartition (p : Partition) (P Q : Present) : Type 0 where
  pub txns : Q.txns ≡ map (projected p) P.txns
  pub own : (x : List ℕ) → has_key p x ≡ true → set_up_value x Q.initial ≡ set_up_value x P.initial
  pub others : (x : List ℕ) → set_up_value x P.initial ≡ None → set_up_value x Q.initial ≡ None

-- the partition at this place among so many
abbrev pub partition_at : ℕ → ℕ → Partition
partition_at index count = record { index = index; count = count }

-- ---- operations count anew

-- the number that the operation at the place i, on a key of the partition, has there: so many of those before it are on its keys
abbrev pub place_in : Partition → List Op → ℕ → ℕ
place_in p ops i = length (filter (has_op p) (take i ops))

-- the second kind is the first with the operation's number counted so, in the transaction that has the reader's id; two that overlap have none
abbrev pub IsRenumbered : Partition → Present → Kind → Kind → Type 0
IsRenumbered p P (kind.Unknown t i v) k = (T : Txn) × Contains P.txns T × (T.id ≡ t) × (k ≡ kind.Unknown t (place_in p T.ops i) v)
IsRenumbered p P (kind.Doubt t i v u) k = (T : Txn) × Contains P.txns T × (T.id ≡ t) × (k ≡ kind.Doubt t (place_in p T.ops i) v u)
IsRenumbered p P (kind.Own t i v w) k = (T : Txn) × Contains P.txns T × (T.id ≡ t) × (k ≡ kind.Own t (place_in p T.ops i) v w)
IsRenumbered p P (kind.Aborted t i v u) k = (T : Txn) × Contains P.txns T × (T.id ≡ t) × (k ≡ kind.Aborted t (place_in p T.ops i) v u)
IsRenumbered p P (kind.Intermediate t i v u) k = (T : Txn) × Contains P.txns T × (T.id ≡ t) × (k ≡ kind.Intermediate t (place_in p T.ops i) v u)
IsRenumbered p P (kind.Future t i v u) k = (T : Txn) × Contains P.txns T × (T.id ≡ t) × (k ≡ kind.Future t (place_in p T.ops i) v u)
IsRenumbered p P (kind.Stale t i v n) k = (T : Txn) × Contains P.txns T × (T.id ≡ t) × (k ≡ kind.Stale t (place_in p T.ops i) v n)
IsRenumbered p P (kind.Overlap a b) k = k ≡ kind.Overlap a b

-- the operations that an edit brings
abbrev pub ops_in : Edit → List Op
ops_in (edit.Arrive T) = T.ops
ops_in (edit.Resolve u o) = []
ops_in (edit.Withdraw u) = []
ops_in (edit.SetUp x v) = []

-- the reason, with the operation's number counted so
abbrev pub renumbered : Partition → List Op → Refusal → Refusal
renumbered p ops (refusal.ValueTwice i) = refusal.ValueTwice (place_in p ops i)
renumbered p ops (refusal.ValueTaken i u) = refusal.ValueTaken (place_in p ops i) u
renumbered p ops (refusal.ValueSetUp i) = refusal.ValueSetUp (place_in p ops i)
renumbered p ops refusal.Full = refusal.Full
renumbered p ops refusal.IdPresent = refusal.IdPresent
renumbered p ops refusal.NoSuch = refusal.NoSuch
renumbered p ops refusal.NotInDoubt = refusal.NotInDoubt
renumbered p ops refusal.StampOrder = refusal.StampOrder
renumbered p ops (refusal.StampTaken s u) = refusal.StampTaken s u
renumbered p ops refusal.SetUpTwice = refusal.SetUpTwice
renumbered p ops (refusal.SetUpTaken u) = refusal.SetUpTaken u

-- the place of a reason in the order in which they are looked for
abbrev pub turn_of : Refusal → ℕ
turn_of refusal.Full = 0
turn_of refusal.IdPresent = 1
turn_of refusal.NoSuch = 2
turn_of refusal.NotInDoubt = 3
turn_of refusal.StampOrder = 4
turn_of (refusal.StampTaken s u) = 5
turn_of (refusal.ValueTwice i) = 6
turn_of (refusal.ValueTaken i u) = 7
turn_of refusal.SetUpTwice = 8
turn_of (refusal.SetUpTaken u) = 9
turn_of (refusal.ValueSetUp i) = 10
