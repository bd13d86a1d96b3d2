-- What findings, good form and PL-SI say of snapshots. These laws are this project's.
use Rattle.std.specs.Prelude.{◌≡◌, ◌≢◌, ◌⊎◌, ◌↔◌, ℕ, ◌<◌, List, [], Option}
use Rattle.si_model.specs.declared.numbers.Stamp.{Stamp}
use Rattle.si_model.specs.declared.numbers.Value.{Value}
use Rattle.si_model.specs.declared.transactions.Txn.{Txn}
use Rattle.si_model.specs.declared.kinds.Kind.TheVariants as kind
use Rattle.si_model.specs.declared.findings.Finding.{Finding}
use Rattle.si_model.specs.Parts.{Present}
use Rattle.si_model.specs.Findings.{IsFinding, findings}
use Rattle.si_model.specs.History.{IsHistory}
use Rattle.si_model.specs.Form.{IsWellFormed}
use Rattle.si_graph.specs.Phenomena.{IsPlSi}
use Rattle.si_graph.specs.Serial.{Commits, CommitsWrite, ReadsAt, Gives}
use Rattle.si_graph.specs.SerialLaws.{IsOfReadAt}
use Rattle.si_graph.specs.Snapshots.{IsSnapshot, WriteApart}
use Rattle.si_graph.specs.Emptiness.{HasFinding}

-- of any history, a read of a committed transaction has no finding exactly where it returned what the snapshot at the start gives it
abbrev pub SnapshotReadsAreClean : Type 0
SnapshotReadsAreClean = (P : Present) (T : Txn) (c : Stamp) (i : ℕ) (x : List ℕ) (v : Option Value) → IsHistory P
    → Commits P T c → ReadsAt T i x v → ((f : Finding) → IsFinding P f → IsOfReadAt T.id i f.kind → ⊥) ↔ Gives P T T.start i x v

-- it has no overlap exactly where no two that write one key overlap
abbrev pub ApartIsClean : Type 0
ApartIsClean = (P : Present) → IsHistory P → (HasFinding P 8 → ⊥) ↔ WriteApart P

-- so it has no finding exactly where its committed transactions read snapshots and don't overlap
abbrev pub SnapshotsAreClean : Type 0
SnapshotsAreClean = (P : Present) → IsHistory P → (findings P ≡ []) ↔ IsSnapshot P

-- and they do exactly where it is well formed and PL-SI
abbrev pub SnapshotsAreExact : Type 0
SnapshotsAreExact = (P : Present) → IsHistory P → IsSnapshot P ↔ (IsWellFormed P × IsPlSi P)

-- ---- what a finding tells

-- f tells a read of a committed transaction that returned another value than the snapshot at its start gives it, or none, or some
pub record TellsRead (P : Present) (f : Finding) : Type 0 where
  pub txn : Txn
  pub commit : Stamp
  pub place : ℕ
  pub value : Option Value
  pub commits : Commits P txn commit
  pub reads : ReadsAt txn place f.key value
  pub told : IsOfReadAt txn.id place f.kind
  pub breaks : Gives P txn txn.start place f.key value → ⊥

-- f tells two committed transactions that wrote the key, of which the second one started before the first one committed, and commits behind it
pub record TellsWriters (P : Present) (f : Finding) : Type 0 where
  pub first : Txn
  pub second : Txn
  pub commit : Stamp
  pub later : Stamp
  pub wrote : CommitsWrite P first commit f.key
  pub over : CommitsWrite P second later f.key
  pub told : f.kind ≡ kind.Overlap first.id second.id
  pub differ : first.id ≢ second.id
  pub inside : second.start.0 < commit.0
  pub behind : commit.0 < later.0

-- each finding of a history tells one or the other, so none is told in vain
abbrev pub AlarmsAreTrue : Type 0
AlarmsAreTrue = (P : Present) (f : Finding) → IsHistory P → IsFinding P f → TellsRead P f ⊎ TellsWriters P f
