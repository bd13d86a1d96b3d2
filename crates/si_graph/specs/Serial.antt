-- Histories in commit order, and what the serial run of their committed transactions in the order of their commit stamps gives each
-- read. Nothing here speaks of snapshots, versions or findings. `SerialRuns` has the run itself, operation by operation. That the run is
-- in the order of commit stamps, and that stamps tell a history in commit order, is this project's choice.
use Rattle.std.specs.Prelude.{◌≡◌, ◌≢◌, ◌⊎◌, ℕ, ◌<◌, ◌≤◌, List, Some, Option, slice_get}
use Rattle.std.specs.List.{Contains}
use Rattle.si_model.specs.declared.numbers.Stamp.{Stamp}
use Rattle.si_model.specs.declared.numbers.Value.{Value}
use Rattle.si_model.specs.declared.operations.Op.TheVariants as op
use Rattle.si_model.specs.declared.transactions.Status.TheVariants as status
use Rattle.si_model.specs.declared.transactions.Txn.{Txn}
use Rattle.si_model.specs.Parts.{Present, set_up_value}
use Rattle.si_model.specs.History.{WritesPairAt, WritesSome}

-- T's operation at the place i read x and returned v
abbrev pub ReadsAt : Txn → ℕ → List ℕ → Option Value → Type 0
ReadsAt T i x v = slice_get T.ops i ≡ Some (op.Read x v)

-- T is a committed transaction, and c its commit stamp
pub record Commits (P : Present) (T : Txn) (c : Stamp) : Type 0 where
  pub txn : Contains P.txns T
  pub committed : T.status ≡ status.Committed c

-- U commits at d, and writes x
pub record CommitsWrite (P : Present) (U : Txn) (d : Stamp) (x : List ℕ) : Type 0 where
  pub commits : Commits P U d
  pub place : ℕ
  pub value : Value
  pub writes : WritesPairAt U place x value

-- in commit order: no other transaction that writes commits between the start and the commit of a committed one, or at its start
abbrev pub IsInCommitOrder : Present → Type 0
IsInCommitOrder P = (T U : Txn) (c d : Stamp) → Commits P T c → Commits P U d → WritesSome U → T.id ≢ U.id → T.start.0 ≤ d.0 → d.0 < c.0 → ⊥

-- ---- the serial run in the order of commit stamps

-- v is what T wrote last to x before its operation i
pub record IsLastBefore (T : Txn) (i : ℕ) (x : List ℕ) (v : Value) : Type 0 where
  pub place : ℕ
  pub before : place < i
  pub is : WritesPairAt T place x v
  pub last : (j : ℕ) (w : Value) → WritesPairAt T j x w → j < i → j ≤ place

-- v is what T wrote last to x
pub record IsLastWrite (T : Txn) (x : List ℕ) (v : Value) : Type 0 where
  pub place : ℕ
  pub is : WritesPairAt T place x v
  pub last : (j : ℕ) (w : Value) → WritesPairAt T j x w → j ≤ place

-- v is what the last of those that wrote x and committed before c has left there
pub record IsLeft (P : Present) (c : Stamp) (x : List ℕ) (v : Value) : Type 0 where
  pub writer : Txn
  pub commit : Stamp
  pub commits : Commits P writer commit
  pub wrote : IsLastWrite writer x v
  pub before : commit.0 < c.0
  pub last : (U : Txn) (d : Stamp) → CommitsWrite P U d x → d.0 < c.0 → d.0 ≤ commit.0

-- nobody that committed before c wrote x
abbrev pub IsUntouched : Present → Stamp → List ℕ → Type 0
IsUntouched P c x = (U : Txn) (d : Stamp) → CommitsWrite P U d x → d.0 < c.0 → ⊥

-- what x holds at the stamp c: what was left there last, or else what it was set up with, if it was
abbrev pub Holds : Present → Stamp → List ℕ → Option Value → Type 0
Holds P c x v = ((w : Value) × (v ≡ Some w) × IsLeft P c x w) ⊎ (IsUntouched P c x × (v ≡ set_up_value x P.initial))

-- what the read of x that is the operation i of T is given, seen from the stamp c: what T wrote last to x before, if it did, and else
-- what x holds at c
abbrev pub Gives : Present → Txn → Stamp → ℕ → List ℕ → Option Value → Type 0
Gives P T c i x v = ((w : Value) × (v ≡ Some w) × IsLastBefore T i x w) ⊎ (((w : Value) → IsLastBefore T i x w → ⊥) × Holds P c x v)

-- each read of a committed transaction returned what the run gives it, which is seen from its commit stamp
abbrev pub IsSerial : Present → Type 0
IsSerial P = (T : Txn) (c : Stamp) (i : ℕ) (x : List ℕ) (v : Option Value) → Commits P T c → ReadsAt T i x v → Gives P T c i x v
