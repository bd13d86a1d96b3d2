-- What an edit is on the keys of a shard, made on each of them by itself. All of it is this project's choice.
use Rattle.std.specs.Prelude.{◌≡◌, ◌↔◌, ◌&&◌, ℕ, Bool, Option, Some, not, slice_get, true, List}
use Rattle.std.specs.List.{Contains, list_any}
use Rattle.std.specs.List.Sorted.{IsStrictlySortedBy}
use Rattle.std.specs.declared.cmp.Ordering.{Ordering}
use Rattle.std.specs.Ordering.{nat_cmp, ordering_then}
use Rattle.std.specs.Borrow.{Bor}
use Rattle.std.specs.Cmp.Lexicographic.{slice_cmp}
use Rattle.si_model.specs.declared.operations.Op.{Op}
use Rattle.si_model.specs.declared.edits.Edit.{Edit}
use Rattle.si_model.specs.declared.parts.OnKey.{OnKey}
use Rattle.si_model.specs.KeyTexts.{shard_hash}
use Rattle.si_model.specs.Operations.{key_of, same_key}
use Rattle.si_shard.specs.declared.shard_ids.ShardId.{ShardId}
use Rattle.si_shard.specs.declared.key_changes.Change.{Change}
use Rattle.si_shard.specs.declared.key_states.KeyStates.{KeyStates}
use Rattle.si_shard.specs.ShardIds.{is_ours}
use Rattle.si_shard.specs.AppliedEdits.{IsChangeOn, TxnBefore}
use Rattle.si_shard.specs.KeyChanges.{CanChange}
use Rattle.si_shard.specs.KeyStates.{IsMadeAt, IsOn, StaysAt}

-- what the edit is on a key of the shard can be made there
abbrev pub CanBeMadeBy : ShardId → Option TxnBefore → Edit → KeyStates → Type 0
CanBeMadeBy id t e ks = (x : List ℕ) (c : Change) → is_ours id x ≡ true → IsChangeOn t e x c → (Q : OnKey) × IsOn ks x Q × CanChange c Q

-- what the edit is on a key of the shard was made there, and nothing else
pub record IsMadeBy (id : ShardId) (t : Option TxnBefore) (e : Edit) (old new : KeyStates) : Type 0 where
  pub changed : (x : List ℕ) (c : Change) → is_ours id x ≡ true → IsChangeOn t e x c → IsMadeAt x c old new
  pub others : (x : List ℕ) → (is_ours id x ≡ true → (c : Change) → IsChangeOn t e x c → ⊥) → StaysAt x old new

-- ---- the first operations on keys

-- whether one of the operations is on the key
abbrev pub is_accessed : List Op → List ℕ → Bool
is_accessed ops x = list_any (λ p. same_key (key_of p) x) ops

-- whether the key is one of the shard, and none of the operations before is on it
abbrev pub is_first : ShardId → List Op → List ℕ → Bool
is_first id before x = is_ours id x && not (is_accessed before x)

-- ---- the operations in the order of their keys

-- an operation by the hash of its key, its key and its place
abbrev pub KeyPlace : Type 0
KeyPlace = ℕ × Bor (List ℕ) × ℕ

-- first by the hashes, then by the keys, then by the places
abbrev pub key_place_cmp : KeyPlace → KeyPlace → Ordering
key_place_cmp a b = ordering_then (ordering_then (nat_cmp a.0 b.0) (slice_cmp nat_cmp a.1.now b.1.now)) (nat_cmp a.2 b.2)

-- the hash of each is that of its key
abbrev pub AreHashed : List KeyPlace → Type 0
AreHashed list = (e : KeyPlace) → Contains list e → e.0 ≡ shard_hash e.1.now

-- the operation at the place j of such a list is on the key x
abbrev pub IsKeyAt : List KeyPlace → ℕ → List ℕ → Type 0
IsKeyAt list j x = (e : KeyPlace) × (slice_get list j ≡ Some e) × (e.1.now ≡ x)

-- an operation is on this key of the shard and has this place
pub record IsPlaced (id : ShardId) (ops : List Op) (x : List ℕ) (i : ℕ) : Type 0 where
  pub op : Op
  pub at : slice_get ops i ≡ Some op
  pub key : key_of op ≡ x
  pub ours : is_ours id x ≡ true

-- these are the operations on the keys of the shard, each by its key and its place: in the order of the keys, and then of the places
pub record AreByKey (id : ShardId) (ops : List Op) (list : List KeyPlace) : Type 0 where
  pub sorted : IsStrictlySortedBy key_place_cmp list
  pub exact : (x : List ℕ) (i : ℕ) → ((e : KeyPlace) × Contains list e × (e.1.now ≡ x) × (e.2 ≡ i)) ↔ IsPlaced id ops x i
  pub hashed : AreHashed list
