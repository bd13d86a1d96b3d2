-- The laws that tie the words to the machine of the core, each the contract of a public function of `laws` with an empty body.
use Rattle.std.specs.Prelude.{◌≡◌, ℕ, zero, suc, ◌<◌, ◌≤◌, Bool, true, List, [], ◌∷◌, ◌++◌, length}
use Rattle.atomic_table.specs.Table.{State}
use Rattle.si_model.specs.declared.edits.Edit.{Edit}
use Rattle.si_model.specs.Journals.{IsAccepted}
use Rattle.si_core.specs.Machine.{IsRun, IsSound, Machine, Progress, opened}
use Rattle.si_core.specs.declared.steps.Step.{Step}
use Rattle.si_core.specs.declared.steps.Reply.{Reply}
use Rattle.si_words.specs.declared.views.BookView.{BookView}
use Rattle.si_words.specs.declared.views.ShardView.{ShardView}
use Rattle.si_words.specs.declared.views.View.{View}
use Rattle.si_words.specs.Entries.{edits_of}
use Rattle.si_words.specs.Laws.{KnowsBook, KnowsShard}
use Rattle.si_words.specs.Rule.{IsKept, watermark}

-- how far the first n shards are by their watermarks, where this tells which are spoiled
abbrev pub progress_below : ℕ → List ℕ → (ℕ → Bool) → List Progress
progress_below zero words spoiled = []
progress_below (suc n) words spoiled = progress_below n words spoiled ++ record { position = watermark words n; spoiled = spoiled n } ∷ []

-- the state of the core's machine that a journal and the watermarks under it are
abbrev pub machine_in : ℕ → ℕ → List Edit → List ℕ → (ℕ → Bool) → Machine
machine_in limit shards journal words spoiled = record { limit = limit; journal = journal; shards = progress_below shards words spoiled }

-- an edit that the shard k is due is left for it, by what a seat knows: so it is where the shard is spoiled, which the type behind its lock keeps
abbrev pub HasEditLeftBySeat : State (Unit {0}) View → ℕ → Type 0
HasEditLeftBySeat table k = (seat : ℕ) × (s : ShardView) × KnowsShard table seat s × (s.number ≡ k) × (s.done < length s.due)

-- Between any two steps of any threads, where the journal of the book's seat is accepted and within the limit, and an edit is left for each
-- spoiled shard, that journal, the watermarks and which shards are spoiled are a sound state of the core's machine, which is reached from its opening
abbrev pub WordsAreMachine : Type 0
WordsAreMachine = (shards passes limit : ℕ) (table : State (Unit {0}) View) (seat : ℕ) (b : BookView) (spoiled : ℕ → Bool)
    → IsKept shards passes table → KnowsBook table seat b → IsAccepted (edits_of b.journal) → length b.journal ≤ limit
    → ((k : ℕ) → k < shards → spoiled k ≡ true → HasEditLeftBySeat table k)
    → IsSound (machine_in limit shards (edits_of b.journal) table.words spoiled)
    × ((steps : List Step) × (rs : List Reply) × IsRun (opened shards limit) steps rs (machine_in limit shards (edits_of b.journal) table.words spoiled))
