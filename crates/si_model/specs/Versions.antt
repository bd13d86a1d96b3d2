-- The versions of one key, over the parts on it. A committed transaction installs its final modification of a key, and the
-- installed versions of a key have a version order: Adya's thesis, chapter 3. That commit stamps give this order, and that
-- the initial version, which comes first, belongs to no transaction, is this project's choice.
use Rattle.std.specs.Prelude.{◌≡◌, ℕ, ◌<◌, ◌≤◌, Bool, true, false, if◌then◌else◌, nat_lt, List, Some, None, Option, ⊤}
use Rattle.std.specs.List.{Contains, list_any, fold}
use Rattle.std.specs.Option.{option_or}
use Rattle.si_model.specs.declared.numbers.Stamp.{Stamp}
use Rattle.si_model.specs.declared.numbers.Value.{Value}
use Rattle.si_model.specs.declared.transactions.Status.{Status}
use Rattle.si_model.specs.declared.transactions.Status.TheVariants as status
use Rattle.si_model.specs.declared.parts.Access.{Access}
use Rattle.si_model.specs.declared.parts.Access.TheVariants as access
use Rattle.si_model.specs.declared.parts.Placed.{Placed}
use Rattle.si_model.specs.declared.parts.Part.{Part}
use Rattle.si_model.specs.declared.parts.OnKey.{OnKey}
use Rattle.si_model.specs.declared.sights.Installer.{Installer}
use Rattle.si_model.specs.declared.sights.VersionId.{VersionId}
use Rattle.si_model.specs.declared.sights.VersionId.TheVariants as version
use Rattle.si_model.specs.Operations.{same_value}

-- ---- writes

-- T writes the value at a place
abbrev pub WritesAt : Part → ℕ → Value → Type 0
WritesAt T i v = Contains T.accesses (record { place = i; access = access.Write v })

-- T writes the value to the key
abbrev pub Writes : Part → Value → Type 0
Writes T v = (i : ℕ) × WritesAt T i v

-- the value is T's last write of the key, its final modification: T writes it, and nothing later
pub record IsFinalWrite (T : Part) (v : Value) : Type 0 where
  pub place : ℕ
  pub is : WritesAt T place v
  pub last : (j : ℕ) (w : Value) → WritesAt T j w → j ≤ place

-- ---- the version order

-- n says who T is, and T installs a version of the key: it committed and writes the key
pub record Installs (T : Part) (n : Installer) : Type 0 where
  pub txn : n.txn ≡ T.id
  pub start : n.start ≡ T.start
  pub committed : T.status ≡ status.Committed n.commit
  pub writes : (v : Value) × Writes T v

-- n installs a version of the key
abbrev pub IsInstaller : OnKey → Installer → Type 0
IsInstaller Q n = (T : Part) × Contains Q.parts T × Installs T n

-- a version that was installed at the commit c comes after that version
abbrev pub IsAfter : VersionId → Stamp → Type 0
IsAfter version.Initial c = ⊤
IsAfter (version.Installed a) c = a.0 < c.0

-- n installs the version next after that one: it comes after, and of those that come after n commits first
pub record IsNext (Q : OnKey) (a : VersionId) (n : Installer) : Type 0 where
  pub installs : IsInstaller Q n
  pub after : IsAfter a n.commit
  pub first : (m : Installer) → IsInstaller Q m → IsAfter a m.commit → n.commit.0 ≤ m.commit.0

-- the next version after that one, or none where none comes after
abbrev pub IsNextIfAny : OnKey → VersionId → Option Installer → Type 0
IsNextIfAny Q a (Some n) = IsNext Q a n
IsNextIfAny Q a None = (n : Installer) → IsInstaller Q n → IsAfter a n.commit → ⊥

-- ---- the same as functions

-- the value that an access writes, if it is a write
abbrev pub written : Access → Option Value
written (access.Read v) = None
written (access.Write v) = Some v

-- whether an access writes the value
abbrev pub is_write_of : Value → Access → Bool
is_write_of v (access.Read w) = false
is_write_of v (access.Write w) = same_value w v

-- whether T writes the value to the key
abbrev pub part_writes : Value → Part → Bool
part_writes v T = list_any (λ a. is_write_of v a.access) T.accesses

-- the value of the last write
abbrev pub last_write : List Placed → Option Value
last_write ys = fold (λ last a. option_or (written a.access) last) None ys

-- the commit stamp of a committed transaction
abbrev pub commit_of : Status → Option Stamp
commit_of (status.Committed c) = Some c
commit_of status.Aborted = None
commit_of status.InDoubt = None

-- T as the installer of a version, where there are a commit stamp and a last write
abbrev pub install_with : Part → Option Stamp → Option Value → Option Installer
install_with T (Some c) (Some v) = Some (record { txn = T.id; start = T.start; commit = c })
install_with T (Some c) None = None
install_with T None v = None

-- T as the installer of a version, where it is committed and writes the key
abbrev pub install : Part → Option Installer
install T = install_with T (commit_of T.status) (last_write T.accesses)

-- whether a version that was installed at the commit c comes after that version
abbrev pub is_after : VersionId → Stamp → Bool
is_after version.Initial c = true
is_after (version.Installed a) c = nat_lt a.0 c.0

-- the one with the lesser commit stamp
abbrev pub earlier : Option Installer → Installer → Option Installer
earlier None n = Some n
earlier (Some m) n = if nat_lt n.commit.0 m.commit.0 then Some n else Some m

-- the nearer one of the next version so far and another transaction's
abbrev pub nearer : VersionId → Option Installer → Option Installer → Option Installer
nearer a best None = best
nearer a best (Some n) = if is_after a n.commit then earlier best n else best

-- the next version after that one
unfoldable pub next_after : List Part → VersionId → Option Installer
next_after parts a = fold (λ best T. nearer a best (install T)) None parts
