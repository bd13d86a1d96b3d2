-- The laws of the machine, each the contract of a public function of `laws` with an empty body. They are this project's.
use Rattle.std.specs.Prelude.{◌≡◌, ◌⊎◌, ◌↔◌, ℕ, ◌+◌, ◌≤◌, false, List, [], ◌∷◌, ◌++◌, Some, length, replicate, slice_get}
use Rattle.std.specs.List.{Contains}
use Rattle.si_core.specs.declared.steps.Step.{Step}
use Rattle.si_core.specs.declared.steps.Reply.{Reply}
use Rattle.si_core.specs.declared.steps.Step.TheVariants as step
use Rattle.si_core.specs.declared.steps.Reply.TheVariants as reply
use Rattle.si_core.specs.Machine.{AppliesMany, IsOther, IsRebuilt, IsRun, IsSound, IsStep, LeavesJournal, Machine, Progress, TellNoRefusedMemory, opened, with_progress}

-- no application and no settling changes the limit or the journal, or how many shards there are
abbrev pub JournalStays : Type 0
JournalStays = (M : Machine) (r : Reply) (N : Machine)
    → ((k : ℕ) → IsStep M (step.Apply k) r N → LeavesJournal M N) × (IsStep M step.Settle r N → LeavesJournal M N)

-- where no memory was refused a run is one function of where it begins and its steps
abbrev pub RunIsFunction : Type 0
RunIsFunction = (M : Machine) (steps : List Step) (rs ts : List Reply) (N P : Machine)
    → IsRun M steps rs N → IsRun M steps ts P → TellNoRefusedMemory rs → TellNoRefusedMemory ts → (rs ≡ ts) × (N ≡ P)

-- every state that a run reaches from the beginning is sound, and has the limit and the shards that it was opened with
abbrev pub ReachedIsSound : Type 0
ReachedIsSound = (shards limit : ℕ) (steps : List Step) (rs : List Reply) (N : Machine) → IsRun (opened shards limit) steps rs N
    → IsSound N × (N.limit ≡ limit) × (length N.shards ≡ shards)

-- a sound state is left sound by every run
abbrev pub RunsKeepSound : Type 0
RunsKeepSound = (M : Machine) (steps : List Step) (rs : List Reply) (N : Machine) → IsRun M steps rs N → IsSound M → IsSound N

-- a run is one of its first steps and then one of the others
abbrev pub RunsJoin : Type 0
RunsJoin = (M N : Machine) (first others : List Step) (rs : List Reply)
    → IsRun M (first ++ others) rs N ↔ ((before after : List Reply) × (Q : Machine) × (rs ≡ before ++ after) × IsRun M first before Q × IsRun Q others after N)

-- a sound state is left sound by a rebuild
abbrev pub RebuildKeepsSound : Type 0
RebuildKeepsSound = (M : Machine) (k : ℕ) (N : Machine) → IsRebuilt M k N → IsSound M → IsSound N

-- the answer to many applications, whose replies these are: the last one that tells that an edit was applied, or the only one where none was
abbrev pub IsAnswerOf : List Reply → Reply → Type 0
IsAnswerOf rs r = (IsOther r × (rs ≡ r ∷ []))
    ⊎ ((p : ℕ) × (r ≡ reply.Applied p) × (before after : List Reply) × (rs ≡ before ++ r ∷ after) × ((s : Reply) → Contains after s → IsOther s))

-- many applications of a shard are a run of one step to apply at least, and so many at most
abbrev pub ManyAreRun : Type 0
ManyAreRun = (most : ℕ) (M : Machine) (k : ℕ) (r : Reply) (N : Machine) → 1 ≤ most → AppliesMany most M k r N
    → (rs : List Reply) × (1 ≤ length rs) × (length rs ≤ most) × IsRun M (replicate (length rs) (step.Apply k)) rs N × IsAnswerOf rs r

-- every sound state is reached: some run leads to it from where a machine with that limit and as many shards was opened
abbrev pub SoundIsReached : Type 0
SoundIsReached = (M : Machine) → IsSound M → (steps : List Step) × (rs : List Reply) × IsRun (opened (length M.shards) M.limit) steps rs M

-- where a shard isn't spoiled and n edits are left for it, n applications are a run in which no memory was refused, and its position is greater by n
abbrev pub ApplicationsAreRun : Type 0
ApplicationsAreRun = (n : ℕ) (M : Machine) (k : ℕ) (p : Progress) → slice_get M.shards k ≡ Some p → p.spoiled ≡ false → p.position + n ≤ length M.journal
    → (rs : List Reply) × TellNoRefusedMemory rs × IsRun M (replicate n (step.Apply k)) rs (with_progress M k (record { position = p.position + n; spoiled = false }))
