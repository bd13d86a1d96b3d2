-- The laws of partitions, each the contract of a public function of `laws` with an empty body. They are this project's.
use Rattle.std.specs.Prelude.{◌≡◌, ◌↔◌, ℕ, ◌<◌, ◌≤◌, true, List, map, Some}
use Rattle.si_model.specs.declared.edits.Edit.{Edit}
use Rattle.si_model.specs.declared.kinds.Kind.{Kind}
use Rattle.si_model.specs.declared.numbers.Stamp.{Stamp}
use Rattle.si_model.specs.declared.refusals.Refusal.{Refusal}
use Rattle.si_model.specs.Parts.{Present}
use Rattle.si_model.specs.History.{IsHistory}
use Rattle.si_model.specs.Edits.{IsAcceptable, after, refusal_on}
use Rattle.si_model.specs.Horizons.{carried}
use Rattle.si_model.specs.Journals.{present, IsAccepted}
use Rattle.si_model.specs.ChanceLaws.{Finds}
use Rattle.si_partitions.specs.declared.partitions.Partition.{Partition}
use Rattle.si_partitions.specs.Partitions.{partition_number, partition_at, has_key, projected_edit, projected_present, renumbered, ops_in, turn_of, IsPartition, IsRenumbered}

-- each key is of one of the partitions
abbrev pub PartitionsHaveAll : Type 0
PartitionsHaveAll = (count : ℕ) (x : List ℕ) → 0 < count → partition_number x count < count

-- ---- what is present

-- what a partition's edits leave is what all leave, with its operations alone, and is a partition of that
pub record ArePresent (p : Partition) (edits : List Edit) : Type 0 where
  pub leaves : present (map (projected_edit p) edits) ≡ projected_present p (present edits)
  pub is : IsPartition p (present edits) (present (map (projected_edit p) edits))

abbrev pub PartitionsArePresent : Type 0
PartitionsArePresent = (p : Partition) (edits : List Edit) → ArePresent p edits

-- an edit leaves a partition of what it leaves of all
abbrev pub EditsKeepPartitions : Type 0
EditsKeepPartitions = (p : Partition) (P Q : Present) (e : Edit) → IsPartition p P Q → IsPartition p (after e P) (after (projected_edit p e) Q)

-- and what is carried over a horizon is a partition of what is carried over of all
abbrev pub HorizonsKeepPartitions : Type 0
HorizonsKeepPartitions = (p : Partition) (P Q : Present) (H : Stamp) → IsHistory P → IsHistory Q → IsPartition p P Q → IsPartition p (carried H P) (carried H Q)

-- ---- what is accepted

-- these are what is present in each of so many partitions where P is, and histories
abbrev pub AreOf : ℕ → Present → (ℕ → Present) → Type 0
AreOf count P Q = (i : ℕ) → i < count → IsPartition (partition_at i count) P (Q i) × IsHistory (Q i)

-- what is present is a history exactly where each partition of it is one
abbrev pub PartitionsAreHistories : Type 0
PartitionsAreHistories = (count : ℕ) (P : Present) → 0 < count → IsHistory P ↔ ((i : ℕ) → i < count → IsHistory (projected_present (partition_at i count) P))

-- on a history an edit is acceptable exactly where it is so on each partition
abbrev pub PartitionsAccept : Type 0
PartitionsAccept = (count : ℕ) (P : Present) (Q : ℕ → Present) (e : Edit) → 0 < count → IsHistory P → AreOf count P Q
    → IsAcceptable P e ↔ ((i : ℕ) → i < count → IsAcceptable (Q i) (projected_edit (partition_at i count) e))

-- a journal is accepted exactly where each partition of it is
abbrev pub PartitionsAreAccepted : Type 0
PartitionsAreAccepted = (count : ℕ) (edits : List Edit) → 0 < count → IsAccepted edits ↔ ((i : ℕ) → i < count → IsAccepted (map (projected_edit (partition_at i count)) edits))

-- a partition tells the reason of the whole against an edit, where operations count anew, and none tells one that is looked for before it
pub record TellsReason (count : ℕ) (Q : ℕ → Present) (e : Edit) (r : Refusal) : Type 0 where
  pub told : (i : ℕ) × (i < count) × (refusal_on (Q i) (projected_edit (partition_at i count) e) ≡ Some (renumbered (partition_at i count) (ops_in e) r))
  pub first : (i : ℕ) (s : Refusal) → i < count → refusal_on (Q i) (projected_edit (partition_at i count) e) ≡ Some s → turn_of r ≤ turn_of s

abbrev pub PartitionsTellReasons : Type 0
PartitionsTellReasons = (count : ℕ) (P : Present) (Q : ℕ → Present) (e : Edit) (r : Refusal) → 0 < count → IsHistory P → AreOf count P Q
    → refusal_on P e ≡ Some r → TellsReason count Q e r

-- ---- what is found

-- the findings of a history on the keys of a partition are those of the partition, where operations count anew; it has no others
pub record FindsApart (p : Partition) (P Q : Present) : Type 0 where
  pub to : (x : List ℕ) (k : Kind) → has_key p x ≡ true → Finds P x k → (j : Kind) × IsRenumbered p P k j × Finds Q x j
  pub from : (x : List ℕ) (j : Kind) → Finds Q x j → (has_key p x ≡ true) × ((k : Kind) × IsRenumbered p P k j × Finds P x k)

abbrev pub PartitionsFind : Type 0
PartitionsFind = (p : Partition) (P Q : Present) → IsHistory P → IsHistory Q → IsPartition p P Q → FindsApart p P Q
