-- The keys of one shard. All of it is this project's choice.
use Rattle.std.specs.Prelude.{ℕ, Bool, nat_eq, List}
use Rattle.std.specs.List.{list_any}
use Rattle.si_model.specs.declared.operations.Op.{Op}
use Rattle.si_model.specs.KeyTexts.{shard_number}
use Rattle.si_model.specs.Operations.{key_of}
use Rattle.si_shard.specs.declared.shard_ids.ShardId.{ShardId}

-- whether the key is of the shard
abbrev pub is_ours : ShardId → List ℕ → Bool
is_ours id x = nat_eq (shard_number x id.shards) id.shard

-- whether one of the operations is on a key of the shard
abbrev pub is_touched : ShardId → List Op → Bool
is_touched id ops = list_any (λ p. is_ours id (key_of p)) ops
