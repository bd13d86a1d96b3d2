-- What the findings of a history have to do with the phenomena. These laws are this project's.
use Rattle.std.specs.Prelude.{◌≡◌, ◌⊎◌, ◌↔◌, ℕ, []}
use Rattle.std.specs.List.{Contains}
use Rattle.si_model.specs.declared.findings.Finding.{Finding}
use Rattle.si_model.specs.Parts.{Present}
use Rattle.si_model.specs.Order.{number}
use Rattle.si_model.specs.Findings.{findings}
use Rattle.si_model.specs.History.{IsHistory}
use Rattle.si_model.specs.Form.{IsWellFormed}
use Rattle.si_graph.specs.Phenomena.{HasAbortedRead, HasIntermediateRead, HasCircularFlow, HasInterference, HasMissedEffects, IsPlSi}

-- a history has no finding exactly where it is well formed and PL-SI
abbrev pub EmptinessIsExact : Type 0
EmptinessIsExact = (P : Present) → IsHistory P → (findings P ≡ []) ↔ (IsWellFormed P × IsPlSi P)

-- a finding is of the kind with that number
abbrev pub HasFinding : Present → ℕ → Type 0
HasFinding P n = (f : Finding) × Contains (findings P) f × (number f.kind ≡ n)

-- a finding is an aborted read
abbrev pub FindsAbortedRead : Present → Type 0
FindsAbortedRead P = HasFinding P 4

-- a finding is an intermediate read
abbrev pub FindsIntermediateRead : Present → Type 0
FindsIntermediateRead P = HasFinding P 5

-- a finding is a read of the future, or an overlap
abbrev pub FindsInterference : Present → Type 0
FindsInterference P = HasFinding P 6 ⊎ HasFinding P 8

-- a finding is a stale read
abbrev pub FindsMissedEffects : Present → Type 0
FindsMissedEffects P = HasFinding P 7

-- of a well-formed history: G1a is found as aborted reads
abbrev pub AbortedReadsAreFound : Type 0
AbortedReadsAreFound = (P : Present) → IsHistory P → IsWellFormed P → HasAbortedRead P ↔ FindsAbortedRead P

-- without an aborted read, G1b is found as intermediate reads
abbrev pub IntermediateReadsAreFound : Type 0
IntermediateReadsAreFound = (P : Present) → IsHistory P → IsWellFormed P → (FindsAbortedRead P → ⊥) → HasIntermediateRead P ↔ FindsIntermediateRead P

-- G-SI(a) is found as reads of the future and overlaps
abbrev pub InterferenceIsFound : Type 0
InterferenceIsFound = (P : Present) → IsHistory P → IsWellFormed P → HasInterference P ↔ FindsInterference P

-- without G-SI(a) there is no G1c
abbrev pub CircularFlowInterferes : Type 0
CircularFlowInterferes = (P : Present) → IsHistory P → IsWellFormed P → (HasInterference P → ⊥) → HasCircularFlow P → ⊥

-- without G-SI(a), G-SI(b) is found as stale reads
abbrev pub MissedEffectsAreFound : Type 0
MissedEffectsAreFound = (P : Present) → IsHistory P → IsWellFormed P → (HasInterference P → ⊥) → HasMissedEffects P ↔ FindsMissedEffects P
