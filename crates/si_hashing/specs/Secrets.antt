-- What the secret of a hash of numbers is drawn from.
use Rattle.std.specs.Prelude.{ℕ, fold}
use Rattle.std.specs.Hash.{u64}
use Rattle.std.specs.Hash.DefaultHasher as secret_hash
use Rattle.std.specs.Hash.FoldHasher as cheap_hash
use Rattle.std.specs.RandomState.{initial_hasher}
use Rattle.std.specs.declared.hash.RandomState.{RandomState}
use Rattle.si_hashing.specs.declared.number_hashes.NumberHash.{NumberHash}

-- the number that a secret gives for n: std's secret hash of n under it
abbrev pub drawn : RandomState → ℕ → ℕ
drawn secret n = secret_hash.finish (fold secret_hash.write (initial_hasher secret) (u64 n))

-- the hash that feeds the first number before what it hashes, to the cheap hash as it starts, and the last number behind it
abbrev pub hash_between : ℕ → ℕ → NumberHash
hash_between first last = record { begun = fold cheap_hash.write cheap_hash.initial (u64 first); last = last }
