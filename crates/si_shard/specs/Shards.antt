-- What is known of a shard, and its findings. All of it is this project's choice.
use Rattle.std.specs.Prelude.{◌≡◌, ℕ, Bool, false, List, length, Option}
use Rattle.std.specs.List.{filter}
use Rattle.si_model.specs.declared.findings.Finding.{Finding}
use Rattle.si_model.specs.declared.edits.Edit.{Edit}
use Rattle.si_model.specs.declared.transactions.Txn.{Txn}
use Rattle.si_model.specs.Parts.{Present}
use Rattle.si_model.specs.Findings.{findings}
use Rattle.si_model.specs.Journals.{IsAccepted}
use Rattle.si_shard.specs.declared.shard_ids.ShardId.{ShardId}
use Rattle.si_shard.specs.declared.journal_shards.JournalShard.{JournalShard}
use Rattle.si_shard.specs.ShardIds.{is_ours}
use Rattle.si_shard.specs.JournalShards.{Follows}
use Rattle.si_shard.specs.PresentTxns.{AreById}

-- the findings of what is present that are on keys of the shard, in order
abbrev pub findings_in : ShardId → Present → List Finding
findings_in id P = filter (λ f. is_ours id f.key) (findings P)

-- the state of a shard
pub record ShardState : Type 0 where
  -- which shard of how many it is
  pub id : ShardId
  -- the edits that it applied, in the order of their numbers
  pub stored : List Edit
  -- whether memory was refused to an edit
  pub spoiled : Bool

-- what a shard knows: edits that are accepted, of which it has applied all, and unless it is spoiled what they leave present
pub record IsShard (stored : List Edit) (shard : JournalShard) (at : ℕ → Option Txn) : Type 0 where
  pub accepted : IsAccepted stored
  pub follows : Follows stored shard
  pub position : shard.position ≡ length stored
  pub present : shard.spoiled ≡ false → AreById stored at
