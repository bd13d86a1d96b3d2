-- A history in commit order that is made of another one, and the reads of a history that tell the two apart. That each transaction keeps
-- its place in the order of the commits is this project's choice.
use Rattle.std.specs.Prelude.{◌≡◌, ◌≢◌, ◌↔◌, ℕ, ◌<◌, List, Option}
use Rattle.si_model.specs.declared.numbers.Stamp.{Stamp}
use Rattle.si_model.specs.declared.numbers.Value.{Value}
use Rattle.si_model.specs.declared.transactions.Status.TheVariants as status
use Rattle.si_model.specs.declared.transactions.Txn.{Txn}
use Rattle.si_model.specs.declared.parts.Part.{Part}
use Rattle.si_model.specs.declared.sights.Installer.{Installer}
use Rattle.si_model.specs.Parts.{Present, on_key}
use Rattle.si_model.specs.Versions.{IsInstaller}
use Rattle.si_model.specs.History.{WritesSome, IsHistory}
use Rattle.si_model.specs.Chances.{IsFree}
use Rattle.si_graph.specs.Serial.{Commits, IsInCommitOrder}
use Rattle.si_graph.specs.Unstamped.{HasOtherStamps}

-- V, committed at e, is T, committed at c, with other stamps, or the same
pub record IsCommitOf (P R : Present) (T : Txn) (c : Stamp) (V : Txn) (e : Stamp) : Type 0 where
  pub was : Commits P T c
  pub is : Commits R V e
  pub id : V.id ≡ T.id

-- whoever writes commits before or after each other transaction as it did
abbrev pub KeepsCommitOrder : Present → Present → Type 0
KeepsCommitOrder P R = (T V U W : Txn) (c e d f : Stamp) → IsCommitOf P R T c V e → IsCommitOf P R U d W f → WritesSome U → (d.0 < c.0) ↔ (f.0 < e.0)

-- R is P in commit order
pub record IsInCommitOrderOf (P R : Present) : Type 0 where
  pub stamps : HasOtherStamps P R
  pub order : KeepsCommitOrder P R
  pub history : IsHistory R
  pub ordered : IsInCommitOrder R

-- a free read of a key, where another transaction installs a version of the key between the reader's start and its commit
pub record HasReadAcross (P : Present) : Type 0 where
  pub key : List ℕ
  pub reader : Part
  pub place : ℕ
  pub value : Option Value
  pub free : IsFree (on_key key P) reader place value
  pub commit : Stamp
  pub committed : reader.status ≡ status.Committed commit
  pub installer : Installer
  pub installs : IsInstaller (on_key key P) installer
  pub other : installer.txn ≢ reader.id
  pub after : reader.start.0 < installer.commit.0
  pub before : installer.commit.0 < commit.0
