-- The places where a likely fault of a database would have shown a finding, by the kind of the finding: what a history without findings
-- could have shown. A read of a committed transaction is free where the transaction wrote the key at no earlier place. All of it is
-- this project's choice; `Changes` says of each place which change of the history is a finding there.
use Rattle.std.specs.Prelude.{◌≡◌, ◌≢◌, ℕ, ◌<◌, Bool, true, false, not, ◌&&◌, nat_lt, List, Some, None, Option, map, length}
use Rattle.std.specs.List.{Contains, filter, flat_map, list_any, count_by, sum_by}
use Rattle.std.specs.Option.{option_eq}
use Rattle.si_model.specs.declared.numbers.TxnId.{TxnId}
use Rattle.si_model.specs.declared.numbers.Stamp.{Stamp}
use Rattle.si_model.specs.declared.numbers.Value.{Value}
use Rattle.si_model.specs.declared.transactions.Status.{Status}
use Rattle.si_model.specs.declared.transactions.Status.TheVariants as status
use Rattle.si_model.specs.declared.parts.Access.{Access}
use Rattle.si_model.specs.declared.parts.Access.TheVariants as access
use Rattle.si_model.specs.declared.parts.Placed.{Placed}
use Rattle.si_model.specs.declared.parts.Part.{Part}
use Rattle.si_model.specs.declared.parts.OnKey.{OnKey}
use Rattle.si_model.specs.declared.sights.Installer.{Installer}
use Rattle.si_model.specs.declared.chances.Count.{Count}
use Rattle.si_model.specs.declared.chances.Chances.{Chances}
use Rattle.si_model.specs.Operations.{same_value}
use Rattle.si_model.specs.Parts.{Present, on_key}
use Rattle.si_model.specs.Versions.{WritesAt, Writes, IsFinalWrite, IsInstaller, last_write}
use Rattle.si_model.specs.Reads.{IsRead}
use Rattle.si_model.specs.Edits.{same_id}
use Rattle.si_model.specs.Findings.{keys}

-- ---- the places on one key

-- T wrote the key before the place i
abbrev pub WroteBefore : Part → ℕ → Type 0
WroteBefore T i = (j : ℕ) × (w : Value) × WritesAt T j w × (j < i)

-- T's read of v at the place i is free
pub record IsFree (Q : OnKey) (T : Part) (i : ℕ) (v : Option Value) : Type 0 where
  pub read : IsRead Q T i v
  pub free : WroteBefore T i → ⊥

-- two committed transactions are concurrent: each starts before the other commits
pub record AreConcurrent (T U : Part) : Type 0 where
  pub commit : Stamp
  pub other : Stamp
  pub first : T.status ≡ status.Committed commit
  pub second : U.status ≡ status.Committed other
  pub before : T.start.0 < other.0
  pub after : U.start.0 < commit.0

-- U is on the key, aborted and writes it
pub record IsAbortedWriter (Q : OnKey) (U : Part) : Type 0 where
  pub part : Contains Q.parts U
  pub aborted : U.status ≡ status.Aborted
  pub value : Value
  pub writes : Writes U value

-- own: a read of a committed transaction that isn't free
pub record IsOwnPlace (Q : OnKey) (T : Part) (i : ℕ) : Type 0 where
  pub value : Option Value
  pub read : IsRead Q T i value
  pub wrote : WroteBefore T i

-- aborted: a writer that aborted, where some transaction that commits after its start has a free read
pub record IsAbortedPlace (Q : OnKey) (U : Part) : Type 0 where
  pub writer : IsAbortedWriter Q U
  pub reader : Part
  pub place : ℕ
  pub value : Option Value
  pub commit : Stamp
  pub free : IsFree Q reader place value
  pub committed : reader.status ≡ status.Committed commit
  pub after : U.start.0 < commit.0

-- intermediate: a free read, where another transaction that is concurrent writes the key at two places
pub record IsIntermediatePlace (Q : OnKey) (T : Part) (i : ℕ) : Type 0 where
  pub value : Option Value
  pub free : IsFree Q T i value
  pub writer : Part
  pub part : Contains Q.parts writer
  pub other : writer.id ≢ T.id
  pub concurrent : AreConcurrent T writer
  pub earlier : ℕ
  pub later : ℕ
  pub replaced : Value
  pub last : Value
  pub first : WritesAt writer earlier replaced
  pub second : WritesAt writer later last
  pub before : earlier < later

-- future: a free read, where another transaction that is concurrent writes the key
pub record IsFuturePlace (Q : OnKey) (T : Part) (i : ℕ) : Type 0 where
  pub value : Option Value
  pub free : IsFree Q T i value
  pub writer : Part
  pub part : Contains Q.parts writer
  pub other : writer.id ≢ T.id
  pub concurrent : AreConcurrent T writer
  pub written : Value
  pub writes : Writes writer written

-- stale: an installer of a version that a free read of another transaction returned
pub record IsStalePlace (Q : OnKey) (U : Part) : Type 0 where
  pub part : Contains Q.parts U
  pub commit : Stamp
  pub committed : U.status ≡ status.Committed commit
  pub value : Value
  pub final : IsFinalWrite U value
  pub reader : Part
  pub place : ℕ
  pub other : reader.id ≢ U.id
  pub free : IsFree Q reader place (Some value)

-- overlap: a writer that aborted, where a version was installed after its start
pub record IsOverlapPlace (Q : OnKey) (U : Part) : Type 0 where
  pub writer : IsAbortedWriter Q U
  pub installer : Installer
  pub installs : IsInstaller Q installer
  pub after : U.start.0 < installer.commit.0

-- ---- the same as functions

-- whether an access is a read
abbrev pub is_read_access : Access → Bool
is_read_access (access.Read v) = true
is_read_access (access.Write v) = false

-- whether an access is a write
abbrev pub is_write_access : Access → Bool
is_write_access (access.Read v) = false
is_write_access (access.Write v) = true

-- whether an access is a read that returned the value
abbrev pub returns : Value → Access → Bool
returns v (access.Read w) = option_eq same_value w (Some v)
returns v (access.Write w) = false

-- whether a transaction of that status committed
abbrev pub is_committed : Status → Bool
is_committed (status.Committed c) = true
is_committed status.Aborted = false
is_committed status.InDoubt = false

-- whether one of that status aborted
abbrev pub is_aborted : Status → Bool
is_aborted (status.Committed c) = false
is_aborted status.Aborted = true
is_aborted status.InDoubt = false

-- whether T writes the key
abbrev pub writes_key : Part → Bool
writes_key T = list_any (λ a. is_write_access a.access) T.accesses

-- whether T writes the key at two places or more
abbrev pub writes_twice : Part → Bool
writes_twice T = nat_lt 1 (count_by (λ a. is_write_access a.access) T.accesses)

-- whether T wrote the key before the place
abbrev pub wrote_before : Part → ℕ → Bool
wrote_before T i = list_any (λ a. nat_lt a.place i && is_write_access a.access) T.accesses

-- whether an access of T is a read that isn't free, and T is committed
abbrev pub is_own_read : Part → Placed → Bool
is_own_read T a = is_committed T.status && (is_read_access a.access && wrote_before T a.place)

-- whether an access of T is a free read
abbrev pub is_free_read : Part → Placed → Bool
is_free_read T a = is_committed T.status && (is_read_access a.access && not (wrote_before T a.place))

-- whether a transaction that started at s commits after that stamp, if it commits
abbrev pub commits_after : Stamp → Status → Bool
commits_after s (status.Committed c) = nat_lt s.0 c.0
commits_after s status.Aborted = false
commits_after s status.InDoubt = false

-- whether another committed transaction runs at the same time
abbrev pub runs_beside : Part → Part → Bool
runs_beside T U = not (same_id U.id T.id) && (commits_after T.start U.status && commits_after U.start T.status)

-- whether T has a free read and commits after the stamp
abbrev pub reads_after : Stamp → Part → Bool
reads_after s T = commits_after s T.status && list_any (is_free_read T) T.accesses

-- whether another transaction than U has a free read that returned the value
abbrev pub returns_free : Part → Value → Part → Bool
returns_free U v T = not (same_id T.id U.id) && list_any (λ a. is_free_read T a && returns v a.access) T.accesses

-- whether some transaction of these has a free read that returned the value, if there is one
abbrev pub is_returned : List Part → Part → Option Value → Bool
is_returned parts U None = false
is_returned parts U (Some v) = list_any (returns_free U v) parts

-- whether an access of T is an own place
abbrev pub is_own_place : OnKey → Part → Placed → Bool
is_own_place Q T a = is_own_read T a

-- whether it is an intermediate place
abbrev pub is_intermediate_place : OnKey → Part → Placed → Bool
is_intermediate_place Q T a = is_free_read T a && list_any (λ U. runs_beside T U && writes_twice U) Q.parts

-- whether it is a future place
abbrev pub is_future_place : OnKey → Part → Placed → Bool
is_future_place Q T a = is_free_read T a && list_any (λ U. runs_beside T U && writes_key U) Q.parts

-- whether U is an aborted place
abbrev pub is_aborted_place : OnKey → Part → Bool
is_aborted_place Q U = (is_aborted U.status && writes_key U) && list_any (reads_after U.start) Q.parts

-- whether it is a stale place
abbrev pub is_stale_place : OnKey → Part → Bool
is_stale_place Q U = is_committed U.status && is_returned Q.parts U (last_write U.accesses)

-- whether it is an overlap place
abbrev pub is_overlap_place : OnKey → Part → Bool
is_overlap_place Q U = (is_aborted U.status && writes_key U) && list_any (λ T. commits_after U.start T.status && writes_key T) Q.parts

-- the reads on the key that are places, each by its transaction and its place there
abbrev pub reads_where : (OnKey → Part → Placed → Bool) → OnKey → List (TxnId × ℕ)
reads_where test Q = flat_map (λ T. map (λ a. (T.id, a.place)) (filter (test Q T) T.accesses)) Q.parts

-- the writers of the key that are places
abbrev pub writers_where : (OnKey → Part → Bool) → OnKey → List TxnId
writers_where test Q = map (λ U. U.id) (filter (test Q) Q.parts)

-- ---- how many there are

-- how many own places a key has, and so on
abbrev pub own_on : OnKey → ℕ
own_on Q = length (reads_where is_own_place Q)

abbrev pub aborted_on : OnKey → ℕ
aborted_on Q = length (writers_where is_aborted_place Q)

abbrev pub intermediate_on : OnKey → ℕ
intermediate_on Q = length (reads_where is_intermediate_place Q)

abbrev pub future_on : OnKey → ℕ
future_on Q = length (reads_where is_future_place Q)

abbrev pub stale_on : OnKey → ℕ
stale_on Q = length (writers_where is_stale_place Q)

abbrev pub overlap_on : OnKey → ℕ
overlap_on Q = length (writers_where is_overlap_place Q)

-- the places on all keys, and how many keys have one
abbrev pub count_over : (OnKey → ℕ) → Present → Count
count_over f P = record {
  places = sum_by (λ x. f (on_key x P)) (keys P.txns);
  keys = count_by (λ x. nat_lt 0 (f (on_key x P))) (keys P.txns);
}

-- the places of each kind
unfoldable pub chances : Present → Chances
chances P = record {
  own = count_over own_on P;
  aborted = count_over aborted_on P;
  intermediate = count_over intermediate_on P;
  future = count_over future_on P;
  stale = count_over stale_on P;
  overlap = count_over overlap_on P;
}
