-- The indexes of what is on a key. All of it is this project's choice.
use Rattle.std.specs.Prelude.{◌≡◌, ◌≢◌, ◌⊎◌, ◌↔◌, ℕ}
use Rattle.std.specs.Prelude.{Bool, true, false, if◌then◌else◌, List, [], ◌++◌, Some, None, Option, ⊤}
use Rattle.std.specs.List.{Contains, AllPairs, filter, filter_map, flat_map}
use Rattle.std.specs.Option.{option_eq}
use Rattle.si_model.specs.declared.numbers.Stamp.{Stamp}
use Rattle.si_model.specs.declared.numbers.Value.{Value}
use Rattle.si_model.specs.declared.transactions.Status.{Status}
use Rattle.si_model.specs.declared.transactions.Status.TheVariants as status
use Rattle.si_model.specs.declared.parts.Access.{Access}
use Rattle.si_model.specs.declared.parts.Access.TheVariants as access
use Rattle.si_model.specs.declared.parts.Placed.{Placed}
use Rattle.si_model.specs.declared.parts.Part.{Part}
use Rattle.si_model.specs.declared.parts.OnKey.{OnKey}
use Rattle.si_model.specs.Operations.{same_value}
use Rattle.si_model.specs.Versions.{Writes, commit_of, last_write, written}
use Rattle.si_model.specs.Reads.{own_value}
use Rattle.si_model.specs.History.{IsOfHistory}
use Rattle.si_timeline.specs.Timelines.{Adds, Dated, Has, IsNearestBefore, Lacks}
use Rattle.si_timeline.specs.declared.versions.Version.{Version}
use Rattle.si_judge.specs.Commits.{HaveValuesOnce}
use Rattle.si_judge.specs.KeptReads.{AreInOrder, IsKeptReadOf, own_at, kept_reads_among}
use Rattle.si_judge.specs.Values.{at_value}
use Rattle.si_judge.specs.declared.indexes.Indexes.{Indexes}
use Rattle.si_judge.specs.declared.reads.Fate.{Fate}
use Rattle.si_judge.specs.declared.reads.Fate.TheVariants as fate
use Rattle.si_judge.specs.declared.reads.KeptRead.{KeptRead}
use Rattle.si_judge.specs.declared.reads.Write.{Write}

-- ---- the reads and writes of a transaction

-- a read of T that returned v at the place i
abbrev pub kept_read_of : Part → ℕ → Option Value → KeptRead
kept_read_of T i v = record { value = v; start = T.start; txn = T.id; place = i }

-- a read of T with T's own value there, if the access is a read
abbrev pub read_by : Part → ℕ → Access → Option (KeptRead × Option Value)
read_by T i (access.Read v) = Some (kept_read_of T i v, own_value T i)
read_by T i (access.Write v) = None

-- the same of an access with its place
abbrev pub read_at : Part → Placed → Option (KeptRead × Option Value)
read_at T a = read_by T a.place a.access

-- the reads of T
abbrev pub reads_of : Part → List (KeptRead × Option Value)
reads_of T = filter_map (read_at T) T.accesses

-- the reads of a transaction with that commit stamp, if it has one
abbrev pub reads_by : Part → Option Stamp → List (KeptRead × Option Value)
reads_by T None = []
reads_by T (Some c) = reads_of T

-- the reads of T if it is committed, and else none
unfoldable pub reads_in : Part → List (KeptRead × Option Value)
reads_in T = reads_by T (commit_of T.status)

-- what became of a write of v by a transaction with that status, which writes l last
abbrev pub fate_of : Status → Option Value → Value → Fate
fate_of (status.Committed c) l v = if option_eq same_value l (Some v) then fate.Installed c else fate.Earlier
fate_of status.Aborted l v = fate.Aborted
fate_of status.InDoubt l v = fate.InDoubt

-- T's write of the value at the place i, with what became of it
abbrev pub write_of : Part → ℕ → Value → Value × Write
write_of T i v = (v, record { txn = T.id; place = i; fate = fate_of T.status (last_write T.accesses) v })

-- the write, if a value is written
abbrev pub write_by : Part → ℕ → Option Value → Option (Value × Write)
write_by T i None = None
write_by T i (Some v) = Some (write_of T i v)

-- the same of an access with its place
abbrev pub write_at : Part → Placed → Option (Value × Write)
write_at T a = write_by T a.place (written a.access)

-- the writes of T
abbrev pub writes_of : Part → List (Value × Write)
writes_of T = filter_map (write_at T) T.accesses

-- whether the write installed no version
abbrev pub is_other : Fate → Bool
is_other (fate.Installed c) = false
is_other fate.Earlier = true
is_other fate.Aborted = true
is_other fate.InDoubt = true

-- those of the writes that installed no version
abbrev pub others_among : List (Value × Write) → List (Value × Write)
others_among ws = filter (λ w. is_other w.1.fate) ws

-- the writes of T that install no version
abbrev pub other_writes_of : Part → List (Value × Write)
other_writes_of T = others_among (writes_of T)

-- the version that T installs, where there are a commit stamp and a last write
abbrev pub version_with : Part → Option Stamp → Option Value → Option Dated
version_with T None v = None
version_with T (Some c) None = None
version_with T (Some c) (Some v) = Some (c, record { writer = T.id; start = T.start; value = v })

-- the version that T installs, if it installs one
abbrev pub version_by : Part → Option Dated
version_by T = version_with T (commit_of T.status) (last_write T.accesses)

-- ---- what the indexes hold

-- an index of what f gives for each transaction: under a key stands what f gives for one of them, and nothing else
abbrev pub IsIndexOf : {K V : Type 0} → (Part → List (K × V)) → List Part → (K → Option V) → Type 0
IsIndexOf {K} {V} f parts at = (k : K) (v : V) → (at k ≡ Some v) ↔ ((T : Part) × Contains parts T × Contains (f T) (k, v))

-- the indexes are those of what is on the key, which is of a history. A write that installed a version stands in the timeline alone
pub record AreIndexes (M : OnKey) (ix : Indexes) : Type 0 where
  pub history : IsOfHistory M
  pub initial : ix.initial ≡ M.initial
  pub timeline : (d : Dated) → Contains ix.timeline d ↔ ((T : Part) × Contains M.parts T × (version_by T ≡ Some d))
  pub writes : IsIndexOf other_writes_of M.parts (at_value ix.writes)
  pub reads : IsIndexOf reads_in M.parts (own_at ix.reads)
  pub ordered : AreInOrder ix.reads

-- R has T besides what M has, which has no other transaction of that id
pub record Joins (T : Part) (M R : OnKey) : Type 0 where
  pub initial : M.initial ≡ R.initial
  pub absent : (X : Part) → Contains M.parts X → X.id ≢ T.id
  pub parts : (X : Part) → Contains R.parts X ↔ (Contains M.parts X ⊎ (X ≡ T))

-- no version was installed at the commit of this one, if there is one
abbrev pub LacksVersion : Option Dated → List Dated → Type 0
LacksVersion None ds = ⊤
LacksVersion (Some d) ds = Lacks ds d.0

-- with the version, if there is one, no two have one value
abbrev pub KeepsValuesOnce : Option Dated → List Dated → Type 0
KeepsValuesOnce None ds = ⊤
KeepsValuesOnce (Some d) ds = (more : List Dated) → Adds d.0 d.1 ds more → HaveValuesOnce more

-- one was
abbrev pub HasVersion : Option Dated → List Dated → Type 0
HasVersion None ds = ⊤
HasVersion (Some d) ds = Has ds d.0

-- the second list is the first one with the version in it, if there is one
abbrev pub AddsVersion : Option Dated → List Dated → List Dated → Type 0
AddsVersion None old new = new ≡ old
AddsVersion (Some d) old new = Adds d.0 d.1 old new

-- the second list is the first one without what was installed at the commit of the version, if there is one
abbrev pub RemovesVersion : Option Dated → List Dated → List Dated → Type 0
RemovesVersion None old new = new ≡ old
RemovesVersion (Some d) old new = ((v : Version) × Adds d.0 v new old) × Lacks new d.0

-- the transaction can come to what is on the key
abbrev pub Fits : Part → OnKey → Type 0
Fits T M = (R : OnKey) × Joins T M R × IsOfHistory R

-- ---- which reads a transaction touches

-- what a read of the version returns, or of the initial version where there is none
abbrev pub returned_by : Option Value → Option Dated → Option Value
returned_by initial None = initial
returned_by initial (Some d) = Some d.1.value

-- what a read of the version returns that was installed last before the stamp
abbrev pub IsValueBefore : Indexes → Stamp → Option Value → Type 0
IsValueBefore ix c v = (o : Option Dated) × IsNearestBefore ix.timeline c o × (v ≡ returned_by ix.initial o)

-- the reads of the value by readers that started after the stamp
abbrev pub kept_reads_in : Indexes → Option Value → Option Stamp → List (KeptRead × Option Value)
kept_reads_in ix v after = kept_reads_among ix.reads v after

-- the reads of the value, if there is one
abbrev pub readers_of : Indexes → Option Value → List (KeptRead × Option Value)
readers_of ix None = []
readers_of ix (Some v) = kept_reads_in ix (Some v) None

-- the reads of the version before this one, by readers that started after its commit, if there is one
abbrev pub AreReadsBefore : Indexes → Option Dated → List (KeptRead × Option Value) → Type 0
AreReadsBefore ix None reads = reads ≡ []
AreReadsBefore ix (Some d) reads = (v : Option Value) × IsValueBefore ix d.0 v × (reads ≡ kept_reads_in ix v (Some d.0))

-- the reads of what T writes, and those of the version before its own
abbrev pub AreTouchedReads : Indexes → Part → List (Value × Write) → List (KeptRead × Option Value) → Type 0
AreTouchedReads ix T writes reads = (more : List (KeptRead × Option Value)) × AreReadsBefore ix (version_by T) more
    × (reads ≡ flat_map (λ w. kept_reads_in ix (Some w.0) None) writes ++ more)

-- a read of another transaction that T touches: of a value that T writes, or of the version before T's by a reader that started
-- after T's commit
abbrev pub IsTouchedBy : Indexes → Part → KeptRead → Type 0
IsTouchedBy ix T r = ((w : Value) × Writes T w × (r.value ≡ Some w))
    ⊎ ((d : Dated) × (v : Option Value) × (version_by T ≡ Some d) × IsValueBefore ix d.0 v × IsKeptReadOf v (Some d.0) r)

-- the reads that P holds of, each once
pub record AreReadsOf (ix : Indexes) (P : KeptRead → Type 0) (reads : List (KeptRead × Option Value)) : Type 0 where
  pub all : (r : KeptRead) (own : Option Value) → own_at ix.reads r ≡ Some own → P r → Contains reads (r, own)
  pub only : (p : KeptRead × Option Value) → Contains reads p → (own_at ix.reads p.0 ≡ Some p.1) × P p.0
  pub once : AllPairs (λ p q. p.0 ≢ q.0) reads
