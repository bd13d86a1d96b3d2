-- What the core keeps. All of it is this project's choice.
use Rattle.std.specs.Prelude.{◌≡◌, ◌⊎◌, ℕ, ◌+◌, ◌<◌, ◌≤◌, Bool, true, false, List, None, Some, Option, length, map, slice_get, take}
use Rattle.std.specs.List.{Contains}
use Rattle.si_model.specs.declared.edits.Edit.{Edit}
use Rattle.si_model.specs.declared.findings.Finding.{Finding}
use Rattle.si_model.specs.Parts.{Present}
use Rattle.si_model.specs.Journals.{present}
use Rattle.si_accept.specs.Books.{BookState}
use Rattle.si_shard.specs.JournalShards.{Follows, JournalState, state_of}
use Rattle.si_shard.specs.Shards.{findings_in}
use Rattle.si_shard.specs.declared.journal_shards.JournalShard.{JournalShard}
use Rattle.si_shard.specs.Laws.{shard_id}
use Rattle.si_shard.specs.declared.shards.TheConstants.{MOST_SHARDS}
use Rattle.si_core.specs.declared.steps.Reply.{Reply}
use Rattle.si_core.specs.declared.steps.Reply.TheVariants as reply
use Rattle.si_core.specs.declared.steps.WorldFault.{WorldFault}
use Rattle.si_core.specs.declared.steps.WorldFault.TheVariants as fault
use Rattle.si_core.specs.Machine.{IsLeastPosition, IsLeastSpoiled, IsSettled, Machine, Progress}

-- how far a shard is
abbrev pub progress_in : JournalState → Progress
progress_in s = record { position = s.position; spoiled = s.spoiled }

abbrev pub progress_of : JournalShard → Progress
progress_of s = progress_in (state_of s)

-- the state of the machine that a book and its shards are
abbrev pub machine_of : BookState → List JournalShard → Machine
machine_of book shards = record { limit = book.limit; journal = book.journal; shards = map progress_of shards }

-- a shard has applied a beginning of the journal
pub record IsShardOf (journal : List Edit) (shards k : ℕ) (s : JournalShard) : Type 0 where
  pub number : s.id.shard ≡ k
  pub count : s.id.shards ≡ shards
  pub follows : Follows journal s

-- each shard has its own number among them, and has applied a beginning of the journal
pub record IsWorld (book : BookState) (shards : List JournalShard) : Type 0 where
  pub some : 1 ≤ length shards
  pub most : length shards ≤ MOST_SHARDS
  pub each : (k : ℕ) (s : JournalShard) → slice_get shards k ≡ Some s → IsShardOf book.journal (length shards) k s

-- a shard that is to come to a place, where that is farther, may answer so
abbrev pub AppliesTo : ℕ → ℕ → JournalState → Bool → Reply → Reply → JournalState → Type 0
AppliesTo end k old true done r new = (r ≡ reply.Spoiled k) × (new ≡ old)
AppliesTo end k old false done r new = ((r ≡ done) × (new ≡ record old { position = end })) ⊎ ((r ≡ reply.Spoiled k) × (new ≡ record old { spoiled = true }))

-- the shard of this number stays that one, and has applied the next edit of the journal, or the reply says why not
abbrev pub AppliesNext : List Edit → ℕ → JournalShard → Reply → JournalShard → Type 0
AppliesNext J k old r new = IsShardOf J old.id.shards k new
    × (((length J ≤ old.position) × (r ≡ reply.Idle) × (state_of new ≡ state_of old))
    ⊎ ((old.position < length J) × AppliesTo (old.position + 1) k (state_of old) old.spoiled (reply.Applied (old.position + 1)) r (state_of new)))

-- the shard of this number stays that one, and has applied the whole journal, or the reply says why not
abbrev pub AppliesAll : List Edit → ℕ → JournalShard → Reply → JournalShard → Type 0
AppliesAll J k old r new = IsShardOf J old.id.shards k new
    × (((length J ≤ old.position) × (r ≡ reply.Idle) × (state_of new ≡ state_of old))
    ⊎ ((old.position < length J) × AppliesTo (length J) k (state_of old) old.spoiled reply.Idle r (state_of new)))

-- the least shard that is spoiled, if one is
abbrev pub IsFirstSpoiled : List JournalShard → Option ℕ → Type 0
IsFirstSpoiled shards None = (s : JournalShard) → Contains shards s → s.spoiled ≡ false
IsFirstSpoiled shards (Some k) = (s : JournalShard) × (slice_get shards k ≡ Some s) × (s.spoiled ≡ true)
    × ((j : ℕ) (t : JournalShard) → j < k → slice_get shards j ≡ Some t → t.spoiled ≡ false)

-- the least position of a shard
abbrev pub IsLeastOf : List JournalShard → ℕ → Type 0
IsLeastOf shards n = ((s : JournalShard) × Contains shards s × (s.position ≡ n)) × ((s : JournalShard) → Contains shards s → n ≤ s.position)

-- all shards follow the journal
abbrev pub AllFollow : List Edit → List JournalShard → Type 0
AllFollow J shards = (s : JournalShard) → Contains shards s → Follows J s

-- the findings of a shard that follows the journal
abbrev pub shard_findings : List Edit → JournalShard → List Finding
shard_findings J s = findings_in s.id (present (take s.position J))

-- the findings of each shard are those of what is present that are on its keys, by its place among them
abbrev pub AreFoundOf : List Edit → Present → List JournalShard → Type 0
AreFoundOf J P shards = (k : ℕ) (s : JournalShard) → slice_get shards k ≡ Some s → shard_findings J s ≡ findings_in (shard_id k (length shards)) P

-- the machine answers with that fault in place of its findings: the least shard that is spoiled; where none is, the least position, which isn't the
-- end of the journal; or that memory was refused, where all is settled
abbrev pub WithholdsFindings : Machine → WorldFault → Type 0
WithholdsFindings M (fault.Spoiled k) = IsLeastSpoiled M k
WithholdsFindings M (fault.Unsettled position) = IsLeastPosition M position
WithholdsFindings M fault.OutOfMemory = IsSettled M

-- the number of a fault, if it has one
abbrev pub world_fault_code : WorldFault → Option ℕ
world_fault_code (fault.Spoiled k) = Some 41
world_fault_code (fault.Unsettled position) = Some 42
world_fault_code fault.OutOfMemory = None
