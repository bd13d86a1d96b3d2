-- The text of a key, and the hash that picks its shard. All of it is this project's choice.
use Rattle.std.specs.Prelude.{ℕ, ◌+◌, ◌*◌, ◌%◌, ◌≤◌, List, length, fold}
use Rattle.si_model.specs.declared.keys.TheConstants.{MOST_KEY_BYTES}

-- a text of 1 to 128 bytes
abbrev pub IsKeyText : List ℕ → Type 0
IsKeyText bytes = (1 ≤ length bytes) × (length bytes ≤ MOST_KEY_BYTES)

-- the hash after one more byte
abbrev pub shard_hash_with : ℕ → ℕ → ℕ
shard_hash_with hash byte = (31 * hash + byte) % 4294967296

-- the hash of a key's bytes, in their order, from 0
unfoldable pub shard_hash : List ℕ → ℕ
shard_hash bytes = fold shard_hash_with 0 bytes

-- the shard of a key among so many
abbrev pub shard_number : List ℕ → ℕ → ℕ
shard_number key shards = shard_hash key % shards
