-- The reads of one key, what is seen at each, and what kind of finding it is: the first case that applies.
-- Adya's thesis has the phenomena that the kinds stand for, G1a and G1b in chapter 3 and G-SI in chapter 4, and in chapter 3
-- the two conditions on own writes. What is seen at a read, and the order of the cases, are this project's choice.
use Rattle.std.specs.Prelude.{◌≡◌, ◌≢◌, ℕ, ◌<◌, ◌≤◌, Bool, true, false, ◌&&◌, if◌then◌else◌, nat_lt, List, Some, None, Option}
use Rattle.std.specs.List.{Contains, filter, find, list_any}
use Rattle.std.specs.Option.{option_eq}
use Rattle.si_model.specs.declared.numbers.TxnId.{TxnId}
use Rattle.si_model.specs.declared.numbers.Stamp.{Stamp}
use Rattle.si_model.specs.declared.numbers.Value.{Value}
use Rattle.si_model.specs.declared.transactions.Status.{Status}
use Rattle.si_model.specs.declared.transactions.Status.TheVariants as status
use Rattle.si_model.specs.declared.parts.Access.TheVariants as access
use Rattle.si_model.specs.declared.parts.Placed.{Placed}
use Rattle.si_model.specs.declared.parts.Part.{Part}
use Rattle.si_model.specs.declared.parts.OnKey.{OnKey}
use Rattle.si_model.specs.declared.sights.Installer.{Installer}
use Rattle.si_model.specs.declared.sights.VersionId.{VersionId}
use Rattle.si_model.specs.declared.sights.VersionId.TheVariants as version
use Rattle.si_model.specs.declared.sights.Source.{Source}
use Rattle.si_model.specs.declared.sights.Source.TheVariants as source
use Rattle.si_model.specs.declared.sights.Sight.{Sight}
use Rattle.si_model.specs.declared.kinds.Kind.{Kind}
use Rattle.si_model.specs.declared.kinds.Kind.TheVariants as kind
use Rattle.si_model.specs.Operations.{same_value}
use Rattle.si_model.specs.Versions.{WritesAt, Writes, IsFinalWrite, IsNext, is_write_of, part_writes, last_write, next_after}

-- ---- a read and what its transaction wrote

-- T is a committed transaction whose operation at the place i read the key and returned v
pub record IsRead (Q : OnKey) (T : Part) (i : ℕ) (v : Option Value) : Type 0 where
  pub part : Contains Q.parts T
  pub committed : (c : Stamp) × (T.status ≡ status.Committed c)
  pub returned : Contains T.accesses (record { place = i; access = access.Read v })

-- w is T's own value at the place i: the value of its last write of the key before that place
pub record IsOwnValue (T : Part) (i : ℕ) (w : Value) : Type 0 where
  pub place : ℕ
  pub before : place < i
  pub is : WritesAt T place w
  pub last : (j : ℕ) (u : Value) → WritesAt T j u → j < i → j ≤ place

-- T writes the value to the key after the place i
abbrev pub WritesLater : Part → ℕ → Value → Type 0
WritesLater T i v = (j : ℕ) × (i < j) × WritesAt T j v

-- the same as functions: T's own value at the place i
unfoldable pub own_value : Part → ℕ → Option Value
own_value T i = last_write (filter (λ a. nat_lt a.place i) T.accesses)

-- whether an access is a write of the value after the place i
abbrev pub is_later_write : ℕ → Value → Placed → Bool
is_later_write i v a = nat_lt i a.place && is_write_of v a.access

-- whether T writes the value that it read at the place i to the key after that place
unfoldable pub writes_later : Part → ℕ → Option Value → Bool
writes_later T i None = false
writes_later T i (Some v) = list_any (is_later_write i v) T.accesses

-- ---- where a value comes from

-- T, whose id is u, writes the value
pub record IsWriter (Q : OnKey) (v : Value) (u : TxnId) (T : Part) : Type 0 where
  pub part : Contains Q.parts T
  pub id : u ≡ T.id
  pub writes : Writes T v

-- where what a read returned comes from
abbrev pub IsSource : OnKey → Option Value → Source → Type 0
IsSource Q v source.Initial = v ≡ Q.initial
IsSource Q v source.Missing = (v ≢ Q.initial) × ((w : Value) (T : Part) → v ≡ Some w → Contains Q.parts T → Writes T w → ⊥)
IsSource Q v (source.InDoubt u) = (w : Value) × (T : Part) × (v ≡ Some w) × IsWriter Q w u T × (T.status ≡ status.InDoubt)
IsSource Q v (source.Aborted u) = (w : Value) × (T : Part) × (v ≡ Some w) × IsWriter Q w u T × (T.status ≡ status.Aborted)
IsSource Q v (source.Earlier u) =
    (w : Value) × (T : Part) × (v ≡ Some w) × IsWriter Q w u T × ((c : Stamp) × (T.status ≡ status.Committed c)) × (IsFinalWrite T w → ⊥)
IsSource Q v (source.Installed u c) = (w : Value) × (T : Part) × (v ≡ Some w) × IsWriter Q w u T × (T.status ≡ status.Committed c) × IsFinalWrite T w

-- the version that was read, where what was read is one
abbrev pub version_of : Source → Option VersionId
version_of source.Initial = Some version.Initial
version_of (source.Installed u c) = Some (version.Installed c)
version_of source.Missing = None
version_of (source.InDoubt u) = None
version_of (source.Aborted u) = None
version_of (source.Earlier u) = None

-- a read of v returned that version
abbrev pub ReturnsVersion : OnKey → Option Value → VersionId → Type 0
ReturnsVersion Q v a = (s : Source) × IsSource Q v s × (version_of s ≡ Some a)

-- ---- what is seen at a read

-- what a transaction with that start missed after that version: the next version, where it was installed before the start
abbrev pub IsMissedAfter : OnKey → Stamp → VersionId → Option Installer → Type 0
IsMissedAfter Q start a (Some n) = IsNext Q a n × (n.commit.0 < start.0)
IsMissedAfter Q start a None = (n : Installer) → IsNext Q a n → start.0 ≤ n.commit.0

-- the same after the version that was read; without one nothing is missed
abbrev pub IsMissedOf : OnKey → Stamp → Option VersionId → Option Installer → Type 0
IsMissedOf Q start (Some a) n = IsMissedAfter Q start a n
IsMissedOf Q start None n = n ≡ None

-- what is seen at T's read of v at the place i
pub record IsSight (Q : OnKey) (T : Part) (i : ℕ) (v : Option Value) (s : Sight) : Type 0 where
  pub txn : s.txn ≡ T.id
  pub op : s.op ≡ i
  pub start : s.start ≡ T.start
  pub read : s.read ≡ v
  pub own : s.own ≡ own_value T i
  pub later : s.later ≡ writes_later T i v
  pub from : IsSource Q v s.source
  pub missed : IsMissedOf Q T.start (version_of s.source) s.missed

-- ---- the same as functions

-- where a value comes from that T writes
abbrev pub source_by : Part → Value → Status → Source
source_by T v (status.Committed c) = if option_eq same_value (last_write T.accesses) (Some v) then source.Installed T.id c else source.Earlier T.id
source_by T v status.Aborted = source.Aborted T.id
source_by T v status.InDoubt = source.InDoubt T.id

-- where a value comes from, by the transaction that writes it
abbrev pub source_from : Value → Option Part → Source
source_from v None = source.Missing
source_from v (Some T) = source_by T v T.status

-- where what was read comes from, if the initial version doesn't return it
abbrev pub source_among : List Part → Option Value → Source
source_among parts None = source.Missing
source_among parts (Some v) = source_from v (find (part_writes v) parts)

-- where what was read comes from
unfoldable pub source_of : OnKey → Option Value → Source
source_of Q v = if option_eq same_value v Q.initial then source.Initial else source_among Q.parts v

-- the version, where it was installed before the start
abbrev pub if_before : Stamp → Option Installer → Option Installer
if_before start None = None
if_before start (Some n) = if nat_lt n.commit.0 start.0 then Some n else None

-- what a transaction with that start missed after a version, where there is one
abbrev pub missed_of : List Part → Stamp → Option VersionId → Option Installer
missed_of parts start None = None
missed_of parts start (Some a) = if_before start (next_after parts a)

-- what a transaction with that start missed after the version that was read
unfoldable pub missed_at : List Part → Stamp → Source → Option Installer
missed_at parts start s = missed_of parts start (version_of s)

-- what is seen at T's read of v at the place i
unfoldable pub sight_of : OnKey → Part → ℕ → Option Value → Sight
sight_of Q T i v = record {
  txn = T.id;
  op = i;
  start = T.start;
  read = v;
  own = own_value T i;
  later = writes_later T i v;
  source = source_of Q v;
  missed = missed_at Q.parts T.start (source_of Q v);
}

-- ---- the kind of a read, by cases in their order

-- a version that was missed: of G-SI(b), missed effects, since an rw edge leads to its installer and a start edge back
abbrev pub judged_by_next : Sight → Option Installer → Option Kind
judged_by_next s None = None
judged_by_next s (Some n) = Some (kind.Stale s.txn s.op s.read n.txn)

-- what was read is from nowhere, or its writer is in doubt, or aborted (G1a, aborted reads), or writes another value later (G1b,
-- intermediate reads), or committed after the reader's start (G-SI(a), interference: a wr edge without a start edge)
abbrev pub judged_by_source : Sight → Source → Option Kind
judged_by_source s source.Missing = Some (kind.Unknown s.txn s.op s.read)
judged_by_source s (source.InDoubt u) = Some (kind.Doubt s.txn s.op s.read u)
judged_by_source s (source.Aborted u) = Some (kind.Aborted s.txn s.op s.read u)
judged_by_source s (source.Earlier u) = Some (kind.Intermediate s.txn s.op s.read u)
judged_by_source s (source.Installed u c) = if nat_lt s.start.0 c.0 then Some (kind.Future s.txn s.op s.read u) else judged_by_next s s.missed
judged_by_source s source.Initial = judged_by_next s s.missed

-- the reader's own value is returned where there is one, and else no value that the reader itself writes later: the thesis's
-- conditions that a transaction reads its own writes, and that no read precedes the write of its value
abbrev pub judged_by_own : Sight → Option Value → Bool → Option Kind
judged_by_own s (Some w) later = if option_eq same_value s.read (Some w) then None else Some (kind.Own s.txn s.op s.read (Some w))
judged_by_own s None true = Some (kind.Own s.txn s.op s.read None)
judged_by_own s None false = judged_by_source s s.source

-- the kind of finding that a read is, if it is one
unfoldable pub kind_of : Sight → Option Kind
kind_of s = judged_by_own s s.own s.later

-- whether the installer of a version, with that commit stamp, committed after the next one's start: of G-SI(a), interference,
-- since it is a ww edge without a start edge
abbrev pub overlaps : Stamp → Stamp → Bool
overlaps commit start = nat_lt start.0 commit.0
