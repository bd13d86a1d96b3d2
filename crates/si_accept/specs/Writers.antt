-- Who writes which pair of key and value.
use Rattle.std.specs.Prelude.{◌≡◌, ℕ, ◌<◌, ◌≤◌, true, if◌then◌else◌, List, [], length, None, Option, slice_index_or}
use Rattle.std.specs.Ordering.{nat_cmp}
use Rattle.std.specs.List.{list_any}
use Rattle.std.specs.Option.{option_and_then, option_map}
use Rattle.si_model.specs.declared.numbers.TxnId.{TxnId}
use Rattle.si_model.specs.declared.numbers.Value.{Value}
use Rattle.si_model.specs.declared.operations.Op.{Op}
use Rattle.si_model.specs.declared.operations.Op.TheVariants as op
use Rattle.si_model.specs.Operations.{same_write}
use Rattle.si_accept.specs.KeyNumbers.{number_of}
use Rattle.si_sorted.specs.Entries.{value_at}

-- keys with their numbers, and by their numbers the ids of writers by their values
pub record Written : Type 0 where
  pub keys : List (List ℕ)
  pub ids : List (List (ℕ × ℕ))

-- the id that is this number
abbrev pub the_id : ℕ → TxnId
the_id u = record { 0 = u }

-- the writer of the value to the key with that number
abbrev pub id_at : Written → Value → ℕ → Option TxnId
id_at W v n = option_map the_id (value_at nat_cmp (slice_index_or W.ids n []) v.0)

-- the writer of the pair that the operation writes, if it writes one and the pair has a writer
abbrev pub writer_of : Written → Op → Option TxnId
writer_of W (op.Read x v) = None
writer_of W (op.Write x v) = option_and_then (id_at W v) (number_of W.keys x)

-- there is a place for each key, and nothing is said of keys that have no number yet
pub record AreNumbered (W : Written) : Type 0 where
  pub placed : length W.keys ≤ length W.ids
  pub fresh : (n : ℕ) (v : Value) → length W.keys ≤ n → id_at W v n ≡ None

-- there is a place for one key more, and all else is as before
pub record HasRoom (old new : Written) : Type 0 where
  pub keys : new.keys ≡ old.keys
  pub room : length new.keys < length new.ids
  pub same : (n : ℕ) (v : Value) → id_at new v n ≡ id_at old v n

-- the writer of the pair that the operation writes is u after the change, and all else is as before
abbrev pub SetsWriter : Op → Option TxnId → Written → Written → Type 0
SetsWriter p u old new = (q : Op) → writer_of new q ≡ (if same_write q p then u else writer_of old q)

-- the same for the pairs that one of the operations writes
abbrev pub SetsWriters : List Op → Option TxnId → Written → Written → Type 0
SetsWriters ps u old new = (q : Op) → writer_of new q ≡ (if list_any (same_write q) ps then u else writer_of old q)

-- all is as before
abbrev pub SameWriters : Written → Written → Type 0
SameWriters old new = (q : Op) → writer_of new q ≡ writer_of old q

-- the pairs that the operations write have no writer
abbrev pub AreFree : List Op → Written → Type 0
AreFree ps W = (q : Op) → list_any (same_write q) ps ≡ true → writer_of W q ≡ None
