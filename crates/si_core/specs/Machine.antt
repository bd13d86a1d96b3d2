-- The machine of the core, as a relation: which reply a step may get and what it leaves, by cases. A state is the journal of
-- accepted edits and, of each shard, how many of them it has applied and whether it is spoiled. The cases of refused memory stand
-- beside the others. All of it is this project's choice.
use Rattle.std.specs.Prelude.{◌≡◌, ◌≢◌, ◌⊎◌, ℕ, zero, suc, ◌+◌, ◌<◌, ◌≤◌, Bool, true}
use Rattle.std.specs.Prelude.{false, List, [], ◌∷◌, ◌++◌, length, Some, None, replicate, slice_get, slice_set}
use Rattle.std.specs.List.{Contains}
use Rattle.si_model.specs.declared.edits.Edit.{Edit}
use Rattle.si_model.specs.declared.refusals.Refusal.{Refusal}
use Rattle.si_model.specs.Journals.{IsAccepted, refusal_after}
use Rattle.si_core.specs.declared.steps.Step.{Step}
use Rattle.si_core.specs.declared.steps.Step.TheVariants as step
use Rattle.si_core.specs.declared.steps.Reply.{Reply}
use Rattle.si_core.specs.declared.steps.Reply.TheVariants as reply

-- how far a shard is
pub record Progress : Type 0 where
  -- how many edits of the journal it has applied
  pub position : ℕ
  -- whether memory was refused to an edit, and no rebuild came since
  pub spoiled : Bool

-- a state of the machine
pub record Machine : Type 0 where
  -- how many edits the journal may have
  pub limit : ℕ
  pub journal : List Edit
  pub shards : List Progress

-- before any step: so many shards, no edit
abbrev pub opened : ℕ → ℕ → Machine
opened shards limit = record { limit = limit; journal = []; shards = replicate shards (record { position = 0; spoiled = false }) }

-- the state with that progress of the shard k
abbrev pub with_progress : Machine → ℕ → Progress → Machine
with_progress M k p = record M { shards = slice_set M.shards k p }

-- ---- Accept

-- what an edit may be answered, and what that leaves
pub data IsAccept (M : Machine) (e : Edit) : Reply → Machine → Type 0 where
  -- there is a reason against it, of which the first is told, and nothing changes
  edit_refused : (f : Refusal) → refusal_after M.limit M.journal e ≡ Some f → IsAccept M e (reply.Refused f) M
  -- there is none, and its number is told
  edit_accepted : refusal_after M.limit M.journal e ≡ None
      → IsAccept M e (reply.Accepted (record { 0 = length M.journal + 1 })) (record M { journal = M.journal ++ e ∷ [] })
  -- there is none, memory is refused, and nothing changes
  edit_out_of_memory : refusal_after M.limit M.journal e ≡ None → IsAccept M e reply.NoMemory M

-- ---- Apply

-- the shard k is that far, and an edit is left for it
pub record HasEditLeft (M : Machine) (k : ℕ) (p : Progress) : Type 0 where
  pub at : slice_get M.shards k ≡ Some p
  pub left : p.position < length M.journal

-- what the shard k may answer where it is to apply the next edit, and what that leaves
pub data IsApply (M : Machine) (k : ℕ) : Reply → Machine → Type 0 where
  no_shard : slice_get M.shards k ≡ None → IsApply M k reply.Idle M
  -- it has applied the whole journal
  nothing_left : (p : Progress) → slice_get M.shards k ≡ Some p → length M.journal ≤ p.position → IsApply M k reply.Idle M
  spoiled_before : (p : Progress) → HasEditLeft M k p → p.spoiled ≡ true → IsApply M k (reply.Spoiled k) M
  applied : (p : Progress) → HasEditLeft M k p → p.spoiled ≡ false
      → IsApply M k (reply.Applied (p.position + 1)) (with_progress M k (record { position = p.position + 1; spoiled = false }))
  -- memory is refused, and nothing changes
  out_of_memory : (p : Progress) → HasEditLeft M k p → p.spoiled ≡ false → IsApply M k reply.NoMemory M
  -- memory is refused on the way, and the shard is spoiled from now on
  spoiled_now : (p : Progress) → HasEditLeft M k p → p.spoiled ≡ false
      → IsApply M k (reply.Spoiled k) (with_progress M k (record { position = p.position; spoiled = true }))

-- ---- Settle

-- so many applications of the shard k, one after the other
abbrev pub AreApplied : ℕ → Machine → ℕ → Machine → Type 0
AreApplied zero M k N = N ≡ M
AreApplied (suc n) M k N = (p : ℕ) × (Q : Machine) × IsApply M k (reply.Applied p) Q × AreApplied n Q k N

-- the reply isn't that an edit was applied
abbrev pub IsOther : Reply → Type 0
IsOther r = (p : ℕ) → r ≢ reply.Applied p

-- the shard k applies until it gets another reply, which is r
abbrev pub AppliesUntil : Machine → ℕ → Reply → Machine → Type 0
AppliesUntil M k r N = (n : ℕ) × (Q : Machine) × AreApplied n M k Q × IsApply Q k r N × IsOther r

-- the shards from k on, so many, apply until each is idle; the first other reply ends it
abbrev pub SettlesFrom : ℕ → ℕ → Machine → Reply → Machine → Type 0
SettlesFrom zero k M r N = (r ≡ reply.Settled (length M.journal)) × (N ≡ M)
SettlesFrom (suc n) k M r N = ((Q : Machine) × AppliesUntil M k reply.Idle Q × SettlesFrom n (k + 1) Q r N) ⊎ ((r ≢ reply.Idle) × AppliesUntil M k r N)

-- ---- steps and runs

abbrev pub IsStep : Machine → Step → Reply → Machine → Type 0
IsStep M (step.Accept e) r N = IsAccept M e r N
IsStep M (step.Apply k) r N = IsApply M k r N
IsStep M step.Settle r N = SettlesFrom (length M.shards) 0 M r N

-- the steps, one after the other, with their replies
abbrev pub IsRun : Machine → List Step → List Reply → Machine → Type 0
IsRun M [] [] N = N ≡ M
IsRun M [] (r ∷ rs) N = ⊥
IsRun M (s ∷ ss) [] N = ⊥
IsRun M (s ∷ ss) (r ∷ rs) N = (Q : Machine) × IsStep M s r Q × IsRun Q ss rs N

-- ---- what comes beside the steps

-- the shard k isn't spoiled any more, and nothing else changes
abbrev pub IsRebuilt : Machine → ℕ → Machine → Type 0
IsRebuilt M k N = (p : Progress) × (slice_get M.shards k ≡ Some p) × (N ≡ with_progress M k (record p { spoiled = false }))

-- the reply tells how many edits the shard k has applied
abbrev pub TellsPosition : Machine → ℕ → Reply → Type 0
TellsPosition M k r = (p : Progress) × (slice_get M.shards k ≡ Some p) × (r ≡ reply.Applied p.position)

-- the shard k applies until most were applied, or until it gets another reply; the reply tells how far it came, or is that other one where
-- nothing was applied
abbrev pub AppliesMany : ℕ → Machine → ℕ → Reply → Machine → Type 0
AppliesMany most M k r N = (n : ℕ) × (Q : Machine) × AreApplied n M k Q
    × (((n ≡ most) × (N ≡ Q) × TellsPosition Q k r)
    ⊎ ((n < most) × (other : Reply) × IsOther other × IsApply Q k other N × (((n ≡ 0) × (r ≡ other)) ⊎ ((1 ≤ n) × TellsPosition Q k r))))

-- ---- what is settled

-- no shard is spoiled and each has applied the whole journal
abbrev pub IsSettled : Machine → Type 0
IsSettled M = (p : Progress) → Contains M.shards p → (p.spoiled ≡ false) × (p.position ≡ length M.journal)

-- the least shard that is spoiled
pub record IsLeastSpoiled (M : Machine) (k : ℕ) : Type 0 where
  pub progress : Progress
  pub at : slice_get M.shards k ≡ Some progress
  pub spoiled : progress.spoiled ≡ true
  pub least : (j : ℕ) (p : Progress) → j < k → slice_get M.shards j ≡ Some p → p.spoiled ≡ false

-- no shard is spoiled, and this is the least position, which isn't the end of the journal
pub record IsLeastPosition (M : Machine) (position : ℕ) : Type 0 where
  pub whole : (p : Progress) → Contains M.shards p → p.spoiled ≡ false
  pub progress : Progress
  pub among : Contains M.shards progress
  pub is : progress.position ≡ position
  pub least : (p : Progress) → Contains M.shards p → position ≤ p.position
  pub left : position < length M.journal

-- ---- what a step leaves

-- from M to N the limit and the journal stay, and there are as many shards
pub record LeavesJournal (M N : Machine) : Type 0 where
  pub limit : N.limit ≡ M.limit
  pub journal : N.journal ≡ M.journal
  pub shards : length N.shards ≡ length M.shards

-- ---- replies where no memory was refused

-- the reply doesn't tell that the growth of some memory was refused
abbrev pub TellsNoRefusedMemory : Reply → Type 0
TellsNoRefusedMemory r = (r ≢ reply.NoMemory) × ((k : ℕ) → r ≢ reply.Spoiled k)

-- none of the replies tells that
abbrev pub TellNoRefusedMemory : List Reply → Type 0
TellNoRefusedMemory rs = (r : Reply) → Contains rs r → TellsNoRefusedMemory r

-- ---- what is so in every state that runs reach

pub record IsSound (M : Machine) : Type 0 where
  pub accepted : IsAccepted M.journal
  pub within : length M.journal ≤ M.limit
  -- a shard has applied no more than there is, and a spoiled one has an edit left
  pub positions : (p : Progress) → Contains M.shards p → p.position ≤ length M.journal
  pub left : (p : Progress) → Contains M.shards p → p.spoiled ≡ true → p.position < length M.journal
