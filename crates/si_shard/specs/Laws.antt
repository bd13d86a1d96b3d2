-- The laws of shards, each the contract of a public function of `laws` with an empty body. They are this project's.
use Rattle.std.specs.Prelude.{◌≡◌, ℕ, zero, suc, ◌≤◌, List, [], ◌++◌}
use Rattle.si_model.specs.declared.findings.Finding.{Finding}
use Rattle.si_model.specs.Parts.{Present}
use Rattle.si_model.specs.Findings.{findings}
use Rattle.si_model.specs.History.{IsHistory}
use Rattle.si_model.specs.Order.{finding_cmp, in_order}
use Rattle.si_shard.specs.declared.shard_ids.ShardId.{ShardId}
use Rattle.si_shard.specs.KeyNotes.{not_among}
use Rattle.si_shard.specs.Shards.{findings_in}

-- the shard k of so many
abbrev pub shard_id : ℕ → ℕ → ShardId
shard_id k shards = record { shard = k; shards = shards }

-- the findings of the first n of so many shards, shard by shard
abbrev pub findings_below : ℕ → ℕ → Present → List Finding
findings_below zero shards P = []
findings_below (suc n) shards P = findings_below n shards P ++ findings_in (shard_id n shards) P

-- what the first n of so many shards find now and didn't before, shard by shard
abbrev pub changes_below : ℕ → ℕ → Present → Present → List Finding
changes_below zero shards before now = []
changes_below (suc n) shards before now = changes_below n shards before now ++ not_among (findings_in (shard_id n shards) before) (findings_in (shard_id n shards) now)

-- the findings of all shards, of which there is one at least, put in order, are the findings
abbrev pub FindingsAreOfShards : Type 0
FindingsAreOfShards = (shards : ℕ) (P : Present) → 1 ≤ shards → IsHistory P → in_order finding_cmp (findings_below shards shards P) ≡ findings P
