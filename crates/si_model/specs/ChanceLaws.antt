-- The laws of the places where a likely fault of a database would have shown, each the contract of a public function of `laws` with an
-- empty body. They are this project's.
use Rattle.std.specs.Prelude.{◌≡◌, ◌≢◌, ◌↔◌, ℕ, ◌<◌, List, [], Some, Option}
use Rattle.std.specs.List.{Contains, AllPairs}
use Rattle.std.specs.Ordering.{nat_cmp}
use Rattle.std.specs.Cmp.Lexicographic.{slice_cmp}
use Rattle.si_model.specs.declared.numbers.TxnId.{TxnId}
use Rattle.si_model.specs.declared.numbers.Stamp.{Stamp}
use Rattle.si_model.specs.declared.numbers.Value.{Value}
use Rattle.si_model.specs.declared.operations.Op.{Op}
use Rattle.si_model.specs.declared.transactions.Txn.{Txn}
use Rattle.si_model.specs.declared.transactions.Status.TheVariants as status
use Rattle.si_model.specs.declared.parts.Part.{Part}
use Rattle.si_model.specs.declared.parts.OnKey.{OnKey}
use Rattle.si_model.specs.declared.sights.Installer.{Installer}
use Rattle.si_model.specs.declared.sights.VersionId.{VersionId}
use Rattle.si_model.specs.declared.kinds.Kind.{Kind}
use Rattle.si_model.specs.declared.kinds.Kind.TheVariants as kind
use Rattle.si_model.specs.Operations.{key_of}
use Rattle.si_model.specs.Parts.{Present, on_key}
use Rattle.si_model.specs.Versions.{IsFinalWrite, Installs, IsNext}
use Rattle.si_model.specs.Reads.{ReturnsVersion}
use Rattle.si_model.specs.Order.{IsListOf}
use Rattle.si_model.specs.Findings.{keys, findings}
use Rattle.si_model.specs.History.{IsHistory, IsOfHistory}
use Rattle.si_model.specs.Changes.{returning, committing, losing}
use Rattle.si_model.specs.Chances.{AreConcurrent, IsOwnPlace, IsAbortedPlace, IsIntermediatePlace, IsFuturePlace, IsStalePlace, IsOverlapPlace, reads_where, writers_where, is_own_place, is_aborted_place, is_intermediate_place, is_future_place, is_stale_place, is_overlap_place, own_on, aborted_on, intermediate_on, future_on, stale_on, overlap_on}

-- ---- the lists have the places

-- the list has the reads that are places, each by its transaction and its place there, and each once
pub record ListsReads (Q : OnKey) (IsPlace : Part → ℕ → Type 0) (places : List (TxnId × ℕ)) : Type 0 where
  pub once : AllPairs (λ p q. p ≢ q) places
  pub exact : (t : TxnId) (i : ℕ) → Contains places (t, i) ↔ ((T : Part) × Contains Q.parts T × (T.id ≡ t) × IsPlace T i)

-- the list has the writers that are places, each by its transaction, and each once
pub record ListsWriters (Q : OnKey) (IsPlace : Part → Type 0) (places : List TxnId) : Type 0 where
  pub once : AllPairs (λ t u. t ≢ u) places
  pub exact : (u : TxnId) → Contains places u ↔ ((U : Part) × Contains Q.parts U × (U.id ≡ u) × IsPlace U)

-- the lists that are counted have the places of each kind
pub record ListsPlaces (Q : OnKey) : Type 0 where
  pub own : ListsReads Q (IsOwnPlace Q) (reads_where is_own_place Q)
  pub aborted : ListsWriters Q (IsAbortedPlace Q) (writers_where is_aborted_place Q)
  pub intermediate : ListsReads Q (IsIntermediatePlace Q) (reads_where is_intermediate_place Q)
  pub future : ListsReads Q (IsFuturePlace Q) (reads_where is_future_place Q)
  pub stale : ListsWriters Q (IsStalePlace Q) (writers_where is_stale_place Q)
  pub overlap : ListsWriters Q (IsOverlapPlace Q) (writers_where is_overlap_place Q)

-- of a history, the lists have the places of each kind on a key, each place once: so how many they have is how many places there are
abbrev pub PlacesAreExact : Type 0
PlacesAreExact = (Q : OnKey) → IsOfHistory Q → ListsPlaces Q

-- ---- the totals are over all keys

-- some operation of these transactions is on the key x
abbrev pub IsKeyOf : List Txn → List ℕ → Type 0
IsKeyOf txns x = (T : Txn) × Contains txns T × ((p : Op) × Contains T.ops p × (key_of p ≡ x))

-- the keys that are summed over are in strict order, so each is there once, and are those that some operation is on
abbrev pub KeysAreExact : Type 0
KeysAreExact = (txns : List Txn) → IsListOf (slice_cmp nat_cmp) (IsKeyOf txns) (keys txns)

-- no transaction is on the key, and no place of any kind is counted there
pub record HasNoPlace (Q : OnKey) : Type 0 where
  pub parts : Q.parts ≡ []
  pub own : own_on Q ≡ 0
  pub aborted : aborted_on Q ≡ 0
  pub intermediate : intermediate_on Q ≡ 0
  pub future : future_on Q ≡ 0
  pub stale : stale_on Q ≡ 0
  pub overlap : overlap_on Q ≡ 0

-- a key that no operation is on has no place, even if it was set up: so the sums over those keys leave none out
abbrev pub NoPlaceElsewhere : Type 0
NoPlaceElsewhere = (P : Present) (x : List ℕ) → (IsKeyOf P.txns x → ⊥) → HasNoPlace (on_key x P)

-- ---- a place is where a change of the history is a finding

-- of what is present, the kind is found on the key x
abbrev pub Finds : Present → List ℕ → Kind → Type 0
Finds P x k = Contains (findings P) (record { key = x; kind = k })

-- where a read returns something else, what is present is still a history
abbrev pub ReturnIsHistory : Type 0
ReturnIsHistory = (P : Present) (t : TxnId) (i : ℕ) (v : Option Value) → IsHistory P → IsHistory (returning t i v P)

-- and where a version is lost
abbrev pub LossIsHistory : Type 0
LossIsHistory = (P : Present) (x : List ℕ) (u : TxnId) (v : Value) (w : Option Value) → IsHistory P → IsHistory (losing x u v w P)

-- there is a value such that, whatever else T's read of x at the place i returns, it is found that this value, T's own, wasn't returned
pub record ShowsOwn (P : Present) (x : List ℕ) (T : Part) (i : ℕ) : Type 0 where
  pub value : Value
  pub found : (v : Option Value) → v ≢ Some value → Finds (returning T.id i v P) x (kind.Own T.id i v (Some value))

-- of a history, T's operation at the place i is an own place exactly where that is so
abbrev pub OwnIsChange : Type 0
OwnIsChange = (P : Present) (x : List ℕ) (T : Part) (i : ℕ) → IsHistory P → Contains (on_key x P).parts T → IsOwnPlace (on_key x P) T i ↔ ShowsOwn P x T i

-- some transaction commits after U's start, and where one of its reads of x returns some value, it is found that U aborted and wrote it
pub record ShowsAborted (P : Present) (x : List ℕ) (U : Part) : Type 0 where
  pub reader : Part
  pub part : Contains (on_key x P).parts reader
  pub commit : Stamp
  pub committed : reader.status ≡ status.Committed commit
  pub after : U.start.0 < commit.0
  pub place : ℕ
  pub value : Value
  pub found : Finds (returning reader.id place (Some value) P) x (kind.Aborted reader.id place (Some value) U.id)

-- of a history, U is an aborted place exactly where that is so
abbrev pub AbortedIsChange : Type 0
AbortedIsChange = (P : Present) (x : List ℕ) (U : Part) → IsHistory P → Contains (on_key x P).parts U → IsAbortedPlace (on_key x P) U ↔ ShowsAborted P x U

-- some transaction is concurrent with T, and where T's read of x at the place i returns some value, it is found that this transaction
-- wrote it and another value later
pub record ShowsIntermediate (P : Present) (x : List ℕ) (T : Part) (i : ℕ) : Type 0 where
  pub writer : Part
  pub part : Contains (on_key x P).parts writer
  pub concurrent : AreConcurrent T writer
  pub value : Value
  pub found : Finds (returning T.id i (Some value) P) x (kind.Intermediate T.id i (Some value) writer.id)

-- of a history, T's operation at the place i is an intermediate place exactly where that is so
abbrev pub IntermediateIsChange : Type 0
IntermediateIsChange = (P : Present) (x : List ℕ) (T : Part) (i : ℕ) → IsHistory P → Contains (on_key x P).parts T
    → IsIntermediatePlace (on_key x P) T i ↔ ShowsIntermediate P x T i

-- some transaction starts before T's commit, and where T's read of x at the place i returns some value, it is found that this
-- transaction installed it after T's start
pub record ShowsFuture (P : Present) (x : List ℕ) (T : Part) (i : ℕ) : Type 0 where
  pub writer : Part
  pub part : Contains (on_key x P).parts writer
  pub commit : Stamp
  pub committed : T.status ≡ status.Committed commit
  pub before : writer.start.0 < commit.0
  pub value : Value
  pub found : Finds (returning T.id i (Some value) P) x (kind.Future T.id i (Some value) writer.id)

-- of a history, T's operation at the place i is a future place exactly where that is so
abbrev pub FutureIsChange : Type 0
FutureIsChange = (P : Present) (x : List ℕ) (T : Part) (i : ℕ) → IsHistory P → Contains (on_key x P).parts T → IsFuturePlace (on_key x P) T i ↔ ShowsFuture P x T i

-- U aborted, and where it commits at some stamp that leaves a history, it is found that it overlaps with the version before its own on x
pub record ShowsOverlap (P : Present) (x : List ℕ) (U : Part) : Type 0 where
  pub aborted : U.status ≡ status.Aborted
  pub commit : Stamp
  pub history : IsHistory (committing U.id commit P)
  pub first : TxnId
  pub found : Finds (committing U.id commit P) x (kind.Overlap first U.id)

-- of a history, U is an overlap place exactly where that is so. Stamps are natural numbers here, so one above all others is free for the
-- commit; where the program's greatest stamp is taken, it has none
abbrev pub OverlapIsChange : Type 0
OverlapIsChange = (P : Present) (x : List ℕ) (U : Part) → IsHistory P → Contains (on_key x P).parts U → IsOverlapPlace (on_key x P) U ↔ ShowsOverlap P x U

-- w is what the version returns that is right before n's
pub record IsValueBefore (Q : OnKey) (n : Installer) (w : Option Value) : Type 0 where
  pub version : VersionId
  pub next : IsNext Q version n
  pub returns : ReturnsVersion Q w version

-- U installs a value of x, and where the others' free reads of it return what the version before returns, it is found that one of them
-- is stale and missed U
pub record ShowsStale (P : Present) (x : List ℕ) (U : Part) : Type 0 where
  pub installer : Installer
  pub installs : Installs U installer
  pub value : Value
  pub final : IsFinalWrite U value
  pub before : Option Value
  pub is : IsValueBefore (on_key x P) installer before
  pub reader : TxnId
  pub place : ℕ
  pub found : Finds (losing x U.id value before P) x (kind.Stale reader place before U.id)

-- of a history without a finding, U is a stale place exactly where that is so. With findings a stale read that missed U may have been
-- there before
abbrev pub StaleIsChange : Type 0
StaleIsChange = (P : Present) (x : List ℕ) (U : Part) → IsHistory P → findings P ≡ [] → Contains (on_key x P).parts U → IsStalePlace (on_key x P) U ↔ ShowsStale P x U

-- of a history, a place of each kind is exactly where its change of the history gives a finding of this kind there
pub record ChancesAreChanges : Type 0 where
  pub returns : ReturnIsHistory
  pub loses : LossIsHistory
  pub own : OwnIsChange
  pub aborted : AbortedIsChange
  pub intermediate : IntermediateIsChange
  pub future : FutureIsChange
  pub stale : StaleIsChange
  pub overlap : OverlapIsChange
