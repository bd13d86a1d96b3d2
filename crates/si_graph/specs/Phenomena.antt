-- The phenomena that PL-SI forbids: G1 of chapter 3 of Adya's thesis, and G-SI of chapter 4, each as the thesis has it.
use Rattle.std.specs.Prelude.{◌≡◌, ◌≢◌, ℕ, List, Some}
use Rattle.std.specs.List.{Contains}
use Rattle.si_model.specs.declared.numbers.Value.{Value}
use Rattle.si_model.specs.declared.transactions.Status.TheVariants as status
use Rattle.si_model.specs.declared.parts.Part.{Part}
use Rattle.si_model.specs.declared.parts.OnKey.{OnKey}
use Rattle.si_model.specs.Parts.{Present, on_key}
use Rattle.si_model.specs.Versions.{Writes, IsFinalWrite}
use Rattle.si_model.specs.Reads.{IsRead}
use Rattle.si_model.specs.declared.evidence.Label.TheVariants as label
use Rattle.si_model.specs.declared.evidence.Edge.{Edge}
use Rattle.si_graph.specs.Edges.{IsEdge, IsDependency}
use Rattle.si_graph.specs.Walks.{IsCycle, AreDependencies, HasOneRw}

-- T, which committed, read at the place i a value that W writes to the key, which aborted
pub record IsAbortedRead (Q : OnKey) (T : Part) (i : ℕ) (W : Part) : Type 0 where
  pub value : Value
  pub returned : IsRead Q T i (Some value)
  pub writer : Contains Q.parts W
  pub writes : Writes W value
  pub aborted : W.status ≡ status.Aborted

-- T, which committed, read at the place i a value that W, another one, writes to the key and that isn't W's last write of it
pub record IsIntermediateRead (Q : OnKey) (T : Part) (i : ℕ) (W : Part) : Type 0 where
  pub value : Value
  pub returned : IsRead Q T i (Some value)
  pub writer : Contains Q.parts W
  pub another : W.id ≢ T.id
  pub writes : Writes W value
  pub not_last : IsFinalWrite W value → ⊥

-- G1a, aborted reads
abbrev pub HasAbortedRead : Present → Type 0
HasAbortedRead P = (x : List ℕ) × (T : Part) × (i : ℕ) × (W : Part) × IsAbortedRead (on_key x P) T i W

-- G1b, intermediate reads
abbrev pub HasIntermediateRead : Present → Type 0
HasIntermediateRead P = (x : List ℕ) × (T : Part) × (i : ℕ) × (W : Part) × IsIntermediateRead (on_key x P) T i W

-- G1c, circular information flow: a directed cycle of ww and wr edges
abbrev pub HasCircularFlow : Present → Type 0
HasCircularFlow P = (es : List Edge) × IsCycle P es × AreDependencies es

-- G-SI(a), interference: a ww or wr edge without a start edge between the same ends in the same direction
abbrev pub HasInterference : Present → Type 0
HasInterference P = (e : Edge) × IsEdge P e × IsDependency e.label × (IsEdge P (record e { label = label.St }) → ⊥)

-- G-SI(b), missed effects: a directed cycle with exactly one rw edge
abbrev pub HasMissedEffects : Present → Type 0
HasMissedEffects P = (es : List Edge) × IsCycle P es × HasOneRw es

-- PL-SI, snapshot isolation: none of these
pub record IsPlSi (P : Present) : Type 0 where
  pub aborted_reads : HasAbortedRead P → ⊥
  pub intermediate_reads : HasIntermediateRead P → ⊥
  pub circular_flow : HasCircularFlow P → ⊥
  pub interference : HasInterference P → ⊥
  pub missed_effects : HasMissedEffects P → ⊥
