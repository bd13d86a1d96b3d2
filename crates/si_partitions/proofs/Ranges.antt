-- Each key is of a partition that there is.
use Rattle.std.proofs.Common.{◌≡◌, ℕ, ◌*◌, ◌%◌, ◌<◌, List, true, nat_eq, refl, eq-eqb, arith}
use Rattle.std.proofs.Math.Nat.{div-lt_iff_lt-mul, mul-lt-mul_of_pos_right}
use Rattle.si_model.specs.KeyTexts.{shard_hash}
use Rattle.si_partitions.specs.Laws.{PartitionsHaveAll}
use Rattle.si_partitions.specs.Partitions.{partition_number, partition_at, has_key}

pub within : PartitionsHaveAll
within count x some =
    let m : ℕ = shard_hash x * 2654435769 % 4294967296 in
    let small : m < 4294967296 = omega arith in
    let spread : m * count < 4294967296 * count = mul-lt-mul_of_pos_right small some in
    (div-lt_iff_lt-mul (omega arith)).1 (omega (arith, spread))

-- the partition of a key has it
pub own : (count : ℕ) (x : List ℕ) → has_key (partition_at (partition_number x count) count) x ≡ true
own count x = same (partition_number x count)
  where
    same : (n : ℕ) → nat_eq n n ≡ true
    same n = eq-eqb n n refl
