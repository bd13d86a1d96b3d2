-- What lies under the lock of one shard. All of it is this project's choice.
use Rattle.std.specs.Prelude.{◌≡◌, ◌<◌, ◌≤◌, Bool, true, List, length, take}
use Rattle.si_model.specs.declared.edits.Edit.{Edit}
use Rattle.si_model.specs.declared.edits.TheConstants.{MOST_EDITS}
use Rattle.si_model.specs.Journals.{IsAccepted}
use Rattle.si_shard.specs.Laws.{shard_id}
use Rattle.si_shard.specs.JournalShards.{Follows}
use Rattle.si_shard.specs.declared.journal_shards.JournalShard.{JournalShard}
use Rattle.si_words.specs.declared.views.ShardView.{ShardView}
use Rattle.si_words.specs.Entries.{edits_of}
use Rattle.si_words.specs.Seats.{Board, Seated}

-- what a shard's seat knows, and whether the shard is spoiled
pub record LockedShardState : Type 0 where
  pub seat : ShardView
  pub spoiled : Bool

-- the edits that the shard has applied: the first of those that it is due
abbrev pub applied_by : ShardView → List Edit
applied_by seat = take seat.done (edits_of seat.due)

-- what the shard is due is accepted, and it has applied the first of that, as many as its seat has published
pub record IsLockedShard (board : Board) (shard : JournalShard) (seat : Seated ShardView) : Type 0 where
  pub table : seat.table ≡ board.table
  -- the shard is the one that its seat is of
  pub number : seat.view.number < board.shards
  pub id : shard.id ≡ shard_id seat.view.number board.shards
  pub accepted : IsAccepted (edits_of seat.view.due)
  pub room : length seat.view.due ≤ MOST_EDITS
  pub within : seat.view.done ≤ length seat.view.due
  pub position : shard.position ≡ seat.view.done
  pub follows : Follows (edits_of seat.view.due) shard
  -- where it is spoiled, the edit to which memory was refused is left for it
  pub left : shard.spoiled ≡ true → seat.view.done < length seat.view.due
