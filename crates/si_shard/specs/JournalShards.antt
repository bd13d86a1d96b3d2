-- What is known of a shard that applies a journal which others keep. All of it is this project's choice.
use Rattle.std.specs.Prelude.{◌≡◌, ◌⊎◌, ℕ, ◌+◌, ◌<◌, ◌≤◌, Bool, true, false, List, length, take}
use Rattle.si_model.specs.declared.edits.Edit.{Edit}
use Rattle.si_shard.specs.declared.shard_ids.ShardId.{ShardId}
use Rattle.si_shard.specs.declared.journal_shards.JournalShard.{JournalShard}
use Rattle.si_shard.specs.AppliedEdits.{AreSettled}

-- all of it but what it knows of its keys
pub record JournalState : Type 0 where
  -- which shard of how many it is
  pub id : ShardId
  -- how many edits of its journal it applied
  pub position : ℕ
  -- whether memory was refused to an edit
  pub spoiled : Bool

abbrev pub state_of : JournalShard → JournalState
state_of s = record { id = s.id; position = s.position; spoiled = s.spoiled }

-- the shard has applied so many first edits of the journal as its position says: unless it is spoiled, its keys are what these made of them
pub record Follows (journal : List Edit) (s : JournalShard) : Type 0 where
  pub shard : s.id.shard < s.id.shards
  pub within : s.position ≤ length journal
  pub whole : s.spoiled ≡ false → AreSettled s.id (take s.position journal) s.applied

-- of n next edits the shard has applied some first ones
pub record AppliesFirst (n : ℕ) (old new : JournalState) : Type 0 where
  pub id : new.id ≡ old.id
  pub onward : old.position ≤ new.position
  pub within : new.position ≤ old.position + n
  -- where it isn't spoiled, these are all, and it wasn't before
  pub whole : new.spoiled ≡ false → (new.position ≡ old.position + n) × (old.spoiled ≡ false)
  -- where it is spoiled, one was left, or it was spoiled before and applied none
  pub spoiled : new.spoiled ≡ true → (new.position < old.position + n) ⊎ ((new.position ≡ old.position) × (old.spoiled ≡ true))
