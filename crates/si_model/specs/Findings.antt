-- The findings of what is present: as a relation, with quantifiers over the transactions, and as the one list in order.
-- The kinds stand for phenomena of Adya's thesis, as `Reads` says; the findings themselves are this project's choice.
use Rattle.std.specs.Prelude.{◌≡◌, ◌⊎◌, ℕ, Bool, true, if◌then◌else◌, List, [], ◌++◌, map, Some, None, Option}
use Rattle.std.specs.List.{flat_map, filter_map}
use Rattle.std.specs.Option.{option_to_list}
use Rattle.std.specs.Ordering.{nat_cmp}
use Rattle.std.specs.Cmp.Lexicographic.{slice_cmp}
use Rattle.si_model.specs.declared.numbers.Stamp.{Stamp}
use Rattle.si_model.specs.declared.numbers.Value.{Value}
use Rattle.si_model.specs.declared.transactions.Txn.{Txn}
use Rattle.si_model.specs.declared.parts.Access.{Access}
use Rattle.si_model.specs.declared.parts.Access.TheVariants as access
use Rattle.si_model.specs.declared.parts.Placed.{Placed}
use Rattle.si_model.specs.declared.parts.Part.{Part}
use Rattle.si_model.specs.declared.parts.OnKey.{OnKey}
use Rattle.si_model.specs.declared.sights.Installer.{Installer}
use Rattle.si_model.specs.declared.sights.VersionId.TheVariants as version
use Rattle.si_model.specs.declared.sights.Sight.{Sight}
use Rattle.si_model.specs.declared.kinds.Kind.{Kind}
use Rattle.si_model.specs.declared.kinds.Kind.TheVariants as kind
use Rattle.si_model.specs.declared.findings.Finding.{Finding}
use Rattle.si_model.specs.Operations.{key_of}
use Rattle.si_model.specs.Parts.{Present, on_key}
use Rattle.si_model.specs.Versions.{commit_of, install, next_after, IsInstaller, IsNext}
use Rattle.si_model.specs.Reads.{IsRead, IsSight, sight_of, kind_of, overlaps}
use Rattle.si_model.specs.Order.{finding_cmp, in_order}

-- how reads and neighbouring versions are judged: a kind for what is seen at a read, and a yes for a version's commit stamp and
-- the next one's start
pub record Rules : Type 0 where
  pub read : Sight → Option Kind
  pub pair : Stamp → Stamp → Bool

-- the rules of snapshot isolation
abbrev pub cases : Rules
cases = record { read = kind_of; pair = overlaps }

-- a read of a committed transaction is judged to be of this kind
pub record IsOfRead (J : Rules) (Q : OnKey) (k : Kind) : Type 0 where
  pub part : Part
  pub place : ℕ
  pub value : Option Value
  pub sight : Sight
  pub returned : IsRead Q part place value
  pub seen : IsSight Q part place value sight
  pub judged : J.read sight ≡ Some k

-- two installers of neighbouring versions, the first one's first, are judged to overlap
pub record IsOfPair (J : Rules) (Q : OnKey) (k : Kind) : Type 0 where
  pub first : Installer
  pub second : Installer
  pub installs : IsInstaller Q first
  pub next : IsNext Q (version.Installed first.commit) second
  pub judged : J.pair first.commit second.start ≡ true
  pub is : k ≡ kind.Overlap first.txn second.txn

-- k is found on the key
abbrev pub IsFoundOn : Rules → OnKey → Kind → Type 0
IsFoundOn J Q k = IsOfRead J Q k ⊎ IsOfPair J Q k

-- f is a finding on the key x
abbrev pub IsFindingOn : Rules → List ℕ → OnKey → Finding → Type 0
IsFindingOn J x Q f = (f.key ≡ x) × IsFoundOn J Q f.kind

-- f is a finding of what is present
abbrev pub IsFinding : Present → Finding → Type 0
IsFinding P f = IsFoundOn cases (on_key f.key P) f.kind

-- ---- the same as functions

-- the kind that a read of T is judged to be of
abbrev pub access_kind : Rules → OnKey → Part → ℕ → Access → Option Kind
access_kind J Q T i (access.Read v) = J.read (sight_of Q T i v)
access_kind J Q T i (access.Write v) = None

-- the same of an access with its place
abbrev pub placed_kind : Rules → OnKey → Part → Placed → Option Kind
placed_kind J Q T a = access_kind J Q T a.place a.access

-- the overlap of a version with the next one, where the two are judged to overlap
abbrev pub overlap_with : Rules → Installer → Option Installer → Option Kind
overlap_with J m None = None
overlap_with J m (Some n) = if J.pair m.commit n.start then Some (kind.Overlap m.txn n.txn) else None

-- the same of the version that a transaction installs, if it installs one
abbrev pub overlap_of : Rules → List Part → Option Installer → Option Kind
overlap_of J parts None = None
overlap_of J parts (Some m) = overlap_with J m (next_after parts (version.Installed m.commit))

-- the kinds of the reads of a committed transaction, and the overlap of its version
abbrev pub kinds_by : Rules → OnKey → Part → Option Stamp → List Kind
kinds_by J Q T None = []
kinds_by J Q T (Some c) = filter_map (placed_kind J Q T) T.accesses ++ option_to_list (overlap_of J Q.parts (install T))

-- the kinds found of T
unfoldable pub kinds_of : Rules → OnKey → Part → List Kind
kinds_of J Q T = kinds_by J Q T (commit_of T.status)

-- a kind as a finding on the key x
abbrev pub finding_at : List ℕ → Kind → Finding
finding_at x k = record { key = x; kind = k }

-- what is found on the key x, in the order of the parts
abbrev pub found_on : Rules → List ℕ → OnKey → List Finding
found_on J x Q = map (finding_at x) (flat_map (kinds_of J Q) Q.parts)

-- the findings on the key x, in order
unfoldable pub findings_on : Rules → List ℕ → OnKey → List Finding
findings_on J x Q = in_order finding_cmp (found_on J x Q)

-- the keys of a transaction's operations
abbrev pub keys_in : Txn → List (List ℕ)
keys_in T = map key_of T.ops

-- the keys of the transactions' operations, in order
unfoldable pub keys : List Txn → List (List ℕ)
keys txns = in_order (slice_cmp nat_cmp) (flat_map keys_in txns)

-- what is found on the key x
unfoldable pub found_at : Present → List ℕ → List Finding
found_at P x = found_on cases x (on_key x P)

-- the findings of what is present, in order
unfoldable pub findings : Present → List Finding
findings P = in_order finding_cmp (flat_map (found_at P) (keys P.txns))
