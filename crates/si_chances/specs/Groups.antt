-- The operations of all transactions by their keys, and what the transactions do on a key by its operations.
use Rattle.std.specs.Prelude.{◌≡◌, ◌≢◌, ℕ, Bool, false, if◌then◌else◌, List, [], ◌∷◌, ◌++◌, Some, None, Option, slice_get}
use Rattle.std.specs.List.{fold, flat_map, enumerate_from}
use Rattle.std.specs.Option.{option_map}
use Rattle.std.specs.HashMap.{HashMap, Updates, get}
use Rattle.std.specs.declared.vec.Vec.{Vec}
use Rattle.si_model.specs.declared.numbers.TxnId.{TxnId}
use Rattle.si_model.specs.declared.operations.Op.{Op}
use Rattle.si_model.specs.declared.transactions.Txn.{Txn}
use Rattle.si_model.specs.declared.parts.Access.{Access}
use Rattle.si_model.specs.declared.parts.Placed.{Placed}
use Rattle.si_model.specs.declared.parts.Part.{Part}
use Rattle.si_model.specs.Operations.{key_of, access_of, same_key}
use Rattle.si_model.specs.Edits.{same_id}
use Rattle.si_chances.specs.declared.grouping.Slot.{Slot}

-- ---- the slots of a key

-- the slot of an operation, where it is on the key
abbrev pub slots_by : List ℕ → ℕ → ℕ × Op → List Slot
slots_by x n e = if same_key (key_of e.1) x then record { txn = n; op = e.0 } ∷ [] else []

-- those of a transaction's operations
abbrev pub slots_in : List ℕ → ℕ × Txn → List Slot
slots_in x e = flat_map (slots_by x e.0) (enumerate_from 0 e.1.ops)

-- those of all transactions' operations
abbrev pub slots : List ℕ → List Txn → List Slot
slots x txns = flat_map (slots_in x) (enumerate_from 0 txns)

-- these are the slots of a key on which that is kept: nothing is where there are none
abbrev pub Keeps : {A : Type 0} → Option (Vec Slot A) → List Slot → Type 0
Keeps None ss = ss ≡ []
Keeps (Some v) ss = (v.items ≡ ss) × (ss ≢ [])

-- of each key the slots of its operations are kept
abbrev pub AreGroups : {A S : Type 0} → List Txn → HashMap (List ℕ) (Vec Slot A) S → Type 0
AreGroups txns m = (x : List ℕ) → Keeps (get same_key m x) (slots x txns)

-- to those of each key these came
abbrev pub AddsSlots : {A S : Type 0} → (List ℕ → List Slot) → HashMap (List ℕ) (Vec Slot A) S → HashMap (List ℕ) (Vec Slot A) S → Type 0
AddsSlots more old new = (x : List ℕ) (ss : List Slot) → Keeps (get same_key old x) ss → Keeps (get same_key new x) (ss ++ more x)

-- the slots of the key x are these now, and all else is as before
pub record PutsSlots {A S : Type 0} (x : List ℕ) (ss : List Slot) (old new : HashMap (List ℕ) (Vec Slot A) S) : Type 0 where
  pub kept : Vec Slot A
  pub items : kept.items ≡ ss
  pub updates : Updates same_key old new x (Some kept)

-- ---- what the transactions do at some slots

-- the access at a place of a transaction, if there is one
abbrev pub access_in : ℕ → Option Txn → Option Access
access_in i None = None
access_in i (Some T) = option_map access_of (slice_get T.ops i)

-- the access at a slot, if there is one
abbrev pub access_at : List Txn → Slot → Option Access
access_at txns s = access_in s.op (slice_get txns s.txn)

-- whether the last part is of that transaction
abbrev pub ends_with : TxnId → List Part → Bool
ends_with u [] = false
ends_with u (p ∷ []) = same_id p.id u
ends_with u (p ∷ q ∷ ps) = ends_with u (q ∷ ps)

-- one access more of the last part
abbrev pub to_last : Placed → List Part → List Part
to_last a [] = []
to_last a (p ∷ []) = record p { accesses = p.accesses ++ a ∷ [] } ∷ []
to_last a (p ∷ q ∷ ps) = p ∷ to_last a (q ∷ ps)

-- one access of T more, which is the first of a part or goes to the last part where that is T's
abbrev pub with_access : Txn → Placed → List Part → List Part
with_access T a ps = if ends_with T.id ps then to_last a ps else ps ++ record { id = T.id; start = T.start; status = T.status; accesses = a ∷ [] } ∷ []

-- the access at a place of T, if there is one
abbrev pub with_op : Txn → ℕ → Option Op → List Part → List Part
with_op T i None ps = ps
with_op T i (Some op) ps = with_access T (record { place = i; access = access_of op }) ps

-- the access at a place of a transaction, if there is one
abbrev pub with_txn : ℕ → Option Txn → List Part → List Part
with_txn i None ps = ps
with_txn i (Some T) ps = with_op T i (slice_get T.ops i) ps

-- the access at a slot
abbrev pub with_slot : List Txn → List Part → Slot → List Part
with_slot txns ps s = with_txn s.op (slice_get txns s.txn) ps

-- what the transactions do at some slots
abbrev pub parts_at : List Txn → List Slot → List Part
parts_at txns ss = fold (with_slot txns) [] ss
