-- What the indexes say of the transactions that are present.
use Rattle.std.specs.Prelude.{◌≡◌, ◌↔◌, ℕ, ◌||◌, Bool, true, false, if◌then◌else◌, List, Some, None, Option}
use Rattle.std.specs.List.{Contains}
use Rattle.si_model.specs.declared.numbers.Stamp.{Stamp}
use Rattle.si_model.specs.declared.numbers.TxnId.{TxnId}
use Rattle.si_model.specs.declared.operations.Op.{Op}
use Rattle.si_model.specs.declared.transactions.Txn.{Txn}
use Rattle.si_model.specs.Versions.{commit_of}
use Rattle.si_model.specs.Parts.{writes_some, writes_pair_of}
use Rattle.si_accept.specs.Stamps.{has, Sets, SetsPerhaps, SameHolders, LacksPerhaps}
use Rattle.si_accept.specs.Writers.{Written, writer_of, SetsWriters, SameWriters, AreFree}

-- who has which start, who has which commit of those that write and of the others, and who writes what
pub record Indexes : Type 0 where
  pub starts : List (ℕ × ℕ)
  pub installs : List (ℕ × ℕ)
  pub others : List (ℕ × ℕ)
  pub written : Written

-- the commit, where the transaction writes
abbrev pub install_of : Bool → Option Stamp → Option Stamp
install_of writes c = if writes then c else None

-- the commit, where the transaction writes nothing
abbrev pub other_of : Bool → Option Stamp → Option Stamp
other_of writes c = if writes then None else c

-- an index has what P states of one transaction at a place k exactly where that transaction is present
abbrev pub IsExact : {K : Type 0} → (K → Type 0) → (Txn → K → Type 0) → List Txn → Type 0
IsExact {K} there of_txn P = (k : K) → there k ↔ ((T : Txn) × Contains P T × of_txn T k)

-- T starts at s and is u
abbrev pub StartsAt : Txn → Stamp × TxnId → Type 0
StartsAt T k = (T.start ≡ k.0) × (T.id ≡ k.1)

-- T commits at s, as the choice of commits by whether T writes has it, and is u
abbrev pub CommitsAt : (Bool → Option Stamp → Option Stamp) → Txn → Stamp × TxnId → Type 0
CommitsAt choice T k = (choice (writes_some T) (commit_of T.status) ≡ Some k.0) × (T.id ≡ k.1)

-- T writes the pair that the operation writes, and is u
abbrev pub WritesPairOf : Txn → Op × TxnId → Type 0
WritesPairOf T k = (writes_pair_of k.0 T ≡ true) × (T.id ≡ k.1)

-- the indexes say of each start, commit and pair exactly which present transactions have it, and ids are distinct
pub record AreIndexes (P : List Txn) (I : Indexes) : Type 0 where
  pub names : (A B : Txn) → Contains P A → Contains P B → A.id ≡ B.id → A ≡ B
  pub starts : IsExact (λ k. has I.starts k.0 k.1 ≡ true) StartsAt P
  pub installs : IsExact (λ k. has I.installs k.0 k.1 ≡ true) (CommitsAt install_of) P
  pub others : IsExact (λ k. has I.others k.0 k.1 ≡ true) (CommitsAt other_of) P
  pub writers : IsExact (λ k. writer_of I.written k.0 ≡ Some k.1) WritesPairOf P

-- whether u commits there is b after the change, for a transaction u that writes or doesn't, and all else is as before
pub record SetsStamp (writes : Bool) (c : Option Stamp) (u : TxnId) (b : Bool) (old new : Indexes) : Type 0 where
  pub installs : SetsPerhaps (install_of writes c) u b old.installs new.installs
  pub others : SetsPerhaps (other_of writes c) u b old.others new.others

-- what the indexes say of T's start, commit and pairs changes, and nothing else
pub record SetsTxn (T : Txn) (b : Bool) (u : Option TxnId) (old new : Indexes) : Type 0 where
  pub starts : Sets T.start T.id b old.starts new.starts
  pub commits : SetsStamp (writes_some T) (commit_of T.status) T.id b old new
  pub writers : SetsWriters T.ops u old.written new.written

-- the indexes say what they said
pub record SameIndexes (old new : Indexes) : Type 0 where
  pub starts : SameHolders old.starts new.starts
  pub installs : SameHolders old.installs new.installs
  pub others : SameHolders old.others new.others
  pub writers : SameWriters old.written new.written

-- the indexes say nothing of T
pub record LacksTxn (T : Txn) (I : Indexes) : Type 0 where
  pub start : has I.starts T.start T.id ≡ false
  pub install : LacksPerhaps (install_of (writes_some T) (commit_of T.status)) T.id I.installs
  pub other : LacksPerhaps (other_of (writes_some T) (commit_of T.status)) T.id I.others
  pub pairs : AreFree T.ops I.written

-- whether u starts or commits at the stamp
abbrev pub has_any : Indexes → Stamp → TxnId → Bool
has_any I s u = has I.starts s u || (has I.installs s u || has I.others s u)
