-- The laws of the definitions, each the contract of a public function of `laws` with an empty body. They are this project's.
use Rattle.std.specs.Prelude.{◌≡◌, ◌↔◌, List, [], Some, ⊤}
use Rattle.si_model.specs.declared.findings.Finding.{Finding}
use Rattle.si_model.specs.declared.evidence.Edge.{Edge}
use Rattle.si_model.specs.declared.evidence.Evidence.{Evidence}
use Rattle.si_model.specs.declared.evidence.Evidence.TheVariants as evidence
use Rattle.si_model.specs.Parts.{Present}
use Rattle.si_model.specs.Findings.{IsFinding, findings}
use Rattle.si_model.specs.Form.{IsWellFormed}
use Rattle.si_model.specs.History.{IsHistory}
use Rattle.si_model.specs.Evidence.{evidence_of}
use Rattle.si_model.specs.Laws.{FindingsAreExact, FormIsFound, KeysAreOfHistory, PartsAreOfTransactions, AccessesAreOperations, PartsDiffer, TestsDecide}
use Rattle.si_model.specs.Laws.{LastWriteIsFinal, OwnValueIsLast, LaterIsLater, IdIsFound, InstallIsExact, NextIsExact, SourceIsExact, SightIsExact}
use Rattle.si_graph.specs.Walks.{IsClosedWalk, AreDependencies, HasOneRw}
use Rattle.si_graph.specs.Phenomena.{HasAbortedRead, HasIntermediateRead, HasCircularFlow, HasInterference, HasMissedEffects, IsPlSi}
use Rattle.si_graph.specs.Shown.{Shows}
use Rattle.si_graph.specs.Unstamped.{HasOtherStamps}

-- a closed walk of ww and wr edges is there exactly where a cycle of them is
abbrev pub CircularWalksHaveCycles : Type 0
CircularWalksHaveCycles = (P : Present) → ((es : List Edge) × IsClosedWalk P es × AreDependencies es) ↔ HasCircularFlow P

-- a closed walk with exactly one rw edge is there exactly where a cycle with exactly one is
abbrev pub MissedWalksHaveCycles : Type 0
MissedWalksHaveCycles = (P : Present) → ((es : List Edge) × IsClosedWalk P es × HasOneRw es) ↔ HasMissedEffects P

-- no stamps make the history clean
abbrev pub HasNoStamps : Present → Type 0
HasNoStamps P = (Q : Present) → HasOtherStamps P Q → IsHistory Q → findings Q ≡ [] → ⊥

-- the phenomenon that an evidence is of; a fork and a knot are of none, but no stamps mend them
abbrev pub HasPhenomenonOf : Present → Evidence → Type 0
HasPhenomenonOf P (evidence.AbortedRead t i w) = HasAbortedRead P
HasPhenomenonOf P (evidence.IntermediateRead t i w) = HasIntermediateRead P
HasPhenomenonOf P (evidence.Interference e) = HasInterference P
HasPhenomenonOf P (evidence.Missed es) = HasMissedEffects P
HasPhenomenonOf P (evidence.Fork x a b) = HasNoStamps P
HasPhenomenonOf P (evidence.Knot es) = HasNoStamps P

-- an evidence that holds of a history is of a phenomenon that is there
abbrev pub ShownIsThere : Type 0
ShownIsThere = (P : Present) (e : Evidence) → IsHistory P → Shows P e → HasPhenomenonOf P e

-- the history is well formed, where the evidence is a fork or a knot: these are also of values that nobody wrote
abbrev pub IsFormedFor : Present → Evidence → Type 0
IsFormedFor P (evidence.AbortedRead t i w) = ⊤
IsFormedFor P (evidence.IntermediateRead t i w) = ⊤
IsFormedFor P (evidence.Interference e) = ⊤
IsFormedFor P (evidence.Missed es) = ⊤
IsFormedFor P (evidence.Fork x a b) = IsWellFormed P
IsFormedFor P (evidence.Knot es) = IsWellFormed P

-- no evidence holds of a history of snapshot isolation
abbrev pub NothingIsShown : Type 0
NothingIsShown = (P : Present) (e : Evidence) → IsHistory P → IsPlSi P → IsFormedFor P e → Shows P e → ⊥

-- the evidence for a finding of a history holds of it
abbrev pub ExplainedIsShown : Type 0
ExplainedIsShown = (P : Present) (f : Finding) (e : Evidence) → IsHistory P → IsFinding P f → evidence_of f.kind ≡ Some e → Shows P e

-- the laws of `si_model` that these rest on, as one fact
pub record ModelLaws : Type 0 where
  pub findings : FindingsAreExact
  pub form : FormIsFound
  pub keys : KeysAreOfHistory
  pub parts : PartsAreOfTransactions
  pub accesses : AccessesAreOperations
  pub differ : PartsDiffer
  pub tests : TestsDecide
  pub last : LastWriteIsFinal
  pub own : OwnValueIsLast
  pub later : LaterIsLater
  pub ids : IdIsFound
  pub installs : InstallIsExact
  pub next : NextIsExact
  pub sources : SourceIsExact
  pub sights : SightIsExact
