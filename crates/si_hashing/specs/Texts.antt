-- What a hash of texts is fed.
use Rattle.std.specs.Prelude.{ℕ, Bool, true, false, cond, List, fold, take, drop, length}
use Rattle.std.proofs.Math.Dec.{ltb}
use Rattle.std.specs.Hash.{u64}
use Rattle.std.specs.Hash.DefaultHasher as secret_hash
use Rattle.std.specs.Hash.FoldHasher as cheap_hash
use Rattle.std.specs.RandomState.{initial_hasher}
use Rattle.std.specs.declared.hash.RandomState.{RandomState}
use Rattle.std.specs.declared.hash.FoldHasher.{FoldHasher}
use Rattle.si_hashing.specs.declared.key_hashes.KeyHash.{KeyHash}
use Rattle.si_hashing.specs.declared.key_hashes.TheConstants.{MOST_SHORT}

-- the number that stands for a long text: std's secret hash of it
abbrev pub number_of_long : RandomState → List ℕ → ℕ
number_of_long secret bytes = secret_hash.finish (secret_hash.write (initial_hasher secret) bytes)

-- the cheap hash that was fed the text: a short one as it is, or in two parts, a long one as its number
abbrev pub text_fed : RandomState → FoldHasher → List ℕ → FoldHasher
text_fed secret fed bytes = cond (ltb MOST_SHORT (length bytes))
    (fold cheap_hash.write fed (u64 (number_of_long secret bytes)))
    (cond (ltb 8 (length bytes)) (cheap_hash.write (cheap_hash.write fed (take 8 bytes)) (drop 8 bytes)) (cheap_hash.write fed bytes))

-- the hash that feeds the first number before a text, to the cheap hash as it starts, and the last number behind it
abbrev pub key_hash_between : ℕ → ℕ → RandomState → KeyHash
key_hash_between first last secret = record { begun = fold cheap_hash.write cheap_hash.initial (u64 first); last = last; long = secret }
