-- What the findings of a history in commit order say of the serial run in that order. These laws are this project's.
use Rattle.std.specs.Prelude.{◌≡◌, ◌↔◌, ℕ, ◌<◌, List, [], Option}
use Rattle.si_model.specs.declared.numbers.TxnId.{TxnId}
use Rattle.si_model.specs.declared.numbers.Stamp.{Stamp}
use Rattle.si_model.specs.declared.numbers.Value.{Value}
use Rattle.si_model.specs.declared.transactions.Txn.{Txn}
use Rattle.si_model.specs.declared.kinds.Kind.{Kind}
use Rattle.si_model.specs.declared.kinds.Kind.TheVariants as kind
use Rattle.si_model.specs.declared.findings.Finding.{Finding}
use Rattle.si_model.specs.declared.evidence.Edge.{Edge}
use Rattle.si_model.specs.Parts.{Present}
use Rattle.si_model.specs.Findings.{IsFinding, findings}
use Rattle.si_model.specs.History.{IsHistory}
use Rattle.si_graph.specs.Edges.{IsNode}
use Rattle.si_graph.specs.Walks.{IsCycle}
use Rattle.si_graph.specs.Emptiness.{HasFinding}
use Rattle.si_graph.specs.Serial.{Commits, ReadsAt, IsInCommitOrder, Gives, IsSerial}
use Rattle.si_graph.specs.SerialRuns.{AreInOrder, IsRun}
use Rattle.si_graph.specs.CommitOrders.{IsInCommitOrderOf, HasReadAcross}
use Rattle.si_graph.specs.Serializability.{AreConflicts, IsPl3}

-- the kind is of the read that is the operation i of the transaction u
abbrev pub IsOfReadAt : TxnId → ℕ → Kind → Type 0
IsOfReadAt u i (kind.Unknown t j v) = (t ≡ u) × (j ≡ i)
IsOfReadAt u i (kind.Doubt t j v w) = (t ≡ u) × (j ≡ i)
IsOfReadAt u i (kind.Own t j v w) = (t ≡ u) × (j ≡ i)
IsOfReadAt u i (kind.Aborted t j v w) = (t ≡ u) × (j ≡ i)
IsOfReadAt u i (kind.Intermediate t j v w) = (t ≡ u) × (j ≡ i)
IsOfReadAt u i (kind.Future t j v w) = (t ≡ u) × (j ≡ i)
IsOfReadAt u i (kind.Stale t j v n) = (t ≡ u) × (j ≡ i)
IsOfReadAt u i (kind.Overlap a b) = ⊥

-- of a history in commit order, a read of a committed transaction has no finding exactly where it returned what the serial run gives it
abbrev pub SerialReadsAreClean : Type 0
SerialReadsAreClean = (P : Present) (T : Txn) (c : Stamp) (i : ℕ) (x : List ℕ) (v : Option Value) → IsHistory P → IsInCommitOrder P
    → Commits P T c → ReadsAt T i x v → ((f : Finding) → IsFinding P f → IsOfReadAt T.id i f.kind → ⊥) ↔ Gives P T c i x v

-- it has no finding at all exactly where each read of a committed transaction returned what the serial run gives it
abbrev pub SerialIsClean : Type 0
SerialIsClean = (P : Present) → IsHistory P → IsInCommitOrder P → (findings P ≡ []) ↔ IsSerial P

-- of any history: each of these reads returned that exactly where the committed transactions run one after another in that order
abbrev pub RunsAreSerial : Type 0
RunsAreSerial = (P : Present) (run : List Txn) → IsHistory P → AreInOrder P run → IsRun P run ↔ IsSerial P

-- so a history in commit order has no finding exactly where its committed transactions run one after another in that order
abbrev pub CleanIsARun : Type 0
CleanIsARun = (P : Present) → IsHistory P → IsInCommitOrder P → (findings P ≡ []) ↔ ((run : List Txn) × AreInOrder P run × IsRun P run)

-- no finding of it is an overlap
abbrev pub NoneOverlaps : Type 0
NoneOverlaps = (P : Present) → IsHistory P → IsInCommitOrder P → HasFinding P 8 → ⊥

-- a commits before b does
pub record CommitsBefore (P : Present) (a b : TxnId) : Type 0 where
  pub first : Txn
  pub second : Txn
  pub commit : Stamp
  pub later : Stamp
  pub from : IsNode P a first commit
  pub to : IsNode P b second later
  pub before : commit.0 < later.0

-- a read of the future is one of a transaction that commits after the reader
abbrev pub FutureIsLater : Type 0
FutureIsLater = (P : Present) (x : List ℕ) (t : TxnId) (i : ℕ) (v : Option Value) (u : TxnId) → IsHistory P → IsInCommitOrder P
    → IsFinding P (record { key = x; kind = kind.Future t i v u }) → CommitsBefore P t u

-- without a finding its graph of ww, wr and rw edges has no cycle, and it is PL-3
abbrev pub CleanIsSerializable : Type 0
CleanIsSerializable = (P : Present) → IsHistory P → IsInCommitOrder P → findings P ≡ []
    → ((es : List Edge) → IsCycle P es → AreConflicts es → ⊥) × IsPl3 P

-- ---- a history and the same in commit order

-- each history can be put in commit order
abbrev pub CommitOrderIsThere : Type 0
CommitOrderIsThere = (P : Present) → IsHistory P → (R : Present) × IsInCommitOrderOf P R

-- a history without a finding has a free read across another's commit exactly where the same history in commit order has a finding: so
-- without such a read a run on snapshots can't be told from a serial one
abbrev pub UnmovedIsSerial : Type 0
UnmovedIsSerial = (P R : Present) → IsHistory P → findings P ≡ [] → IsInCommitOrderOf P R → HasReadAcross P ↔ (findings R ≡ [] → ⊥)
