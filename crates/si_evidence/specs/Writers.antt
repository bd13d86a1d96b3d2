-- Transactions in buckets by the keys that they write. All of it is this project's choice.
use Rattle.std.specs.Prelude.{◌≡◌, ◌⊎◌, ℕ, List, [], ◌∷◌, length, slice_index_or}
use Rattle.std.specs.List.{Contains}
use Rattle.si_model.specs.declared.numbers.Value.{Value}
use Rattle.si_model.specs.declared.operations.Op.{Op}
use Rattle.si_model.specs.declared.operations.Op.TheVariants as op
use Rattle.si_model.specs.declared.transactions.Txn.{Txn}
use Rattle.si_model.specs.KeyTexts.{shard_number}
use Rattle.si_graph.specs.Writers.{HaveWriters}

-- the bucket of a key
abbrev pub bucket_of : List ℕ → List (List Txn) → List Txn
bucket_of x buckets = slice_index_or buckets (shard_number x (length buckets)) []

-- no bucket has any
abbrev pub AreEmpty : List (List Txn) → Type 0
AreEmpty buckets = (x : List ℕ) (T : Txn) → Contains (bucket_of x buckets) T → ⊥

-- T was put into the bucket of each key that one of the operations writes, and nothing else changed
pub record Puts (T : Txn) (ps : List Op) (old new : List (List Txn)) : Type 0 where
  pub many : length new ≡ length old
  pub kept : (x : List ℕ) (U : Txn) → Contains (bucket_of x old) U → Contains (bucket_of x new) U
  pub only : (x : List ℕ) (U : Txn) → Contains (bucket_of x new) U → Contains (bucket_of x old) U ⊎ (T ≡ U)
  pub there : (x : List ℕ) (w : Value) → Contains ps (op.Write x w) → Contains (bucket_of x new) T

-- of each key the bucket has all writers among the transactions, and none that isn't one of these
abbrev pub AreBuckets : List Txn → List (List Txn) → Type 0
AreBuckets txns buckets = (x : List ℕ) → HaveWriters x txns (bucket_of x buckets)
