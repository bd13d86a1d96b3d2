-- The edges of the start-ordered serialization graph of Adya's thesis, chapter 4: the conflicts of its chapter 3 and the start
-- dependencies, between two different committed transactions. That the version order is by commit stamps is this project's choice.
use Rattle.std.specs.Prelude.{◌≡◌, ◌≢◌, ℕ, ◌<◌, List, Option, ⊤}
use Rattle.std.specs.List.{Contains}
use Rattle.si_model.specs.declared.numbers.TxnId.{TxnId}
use Rattle.si_model.specs.declared.numbers.Stamp.{Stamp}
use Rattle.si_model.specs.declared.numbers.Value.{Value}
use Rattle.si_model.specs.declared.transactions.Status.TheVariants as status
use Rattle.si_model.specs.declared.transactions.Txn.{Txn}
use Rattle.si_model.specs.declared.parts.Part.{Part}
use Rattle.si_model.specs.declared.sights.Installer.{Installer}
use Rattle.si_model.specs.declared.sights.VersionId.{VersionId}
use Rattle.si_model.specs.declared.sights.VersionId.TheVariants as version
use Rattle.si_model.specs.declared.sights.Source.TheVariants as source
use Rattle.si_model.specs.declared.evidence.Label.{Label}
use Rattle.si_model.specs.declared.evidence.Label.TheVariants as label
use Rattle.si_model.specs.declared.evidence.Edge.{Edge}
use Rattle.si_model.specs.Parts.{Present, on_key}
use Rattle.si_model.specs.Versions.{IsInstaller, IsNext}
use Rattle.si_model.specs.Reads.{IsRead, IsSource, ReturnsVersion}

-- a node: T is a committed transaction of that id and commit stamp
pub record IsNode (P : Present) (u : TxnId) (T : Txn) (c : Stamp) : Type 0 where
  pub txn : Contains P.txns T
  pub id : T.id ≡ u
  pub committed : T.status ≡ status.Committed c

-- ww: a installs a version of a key, and b installs the next one
pub record IsWriteDependency (P : Present) (a b : TxnId) : Type 0 where
  pub key : List ℕ
  pub first : Installer
  pub second : Installer
  pub installs : IsInstaller (on_key key P) first
  pub next : IsNext (on_key key P) (version.Installed first.commit) second
  pub from : first.txn ≡ a
  pub to : second.txn ≡ b

-- wr: a installs a version of a key, and a read of b on that key returned it
pub record IsReadDependency (P : Present) (a b : TxnId) : Type 0 where
  pub key : List ℕ
  pub commit : Stamp
  pub reader : Part
  pub place : ℕ
  pub value : Option Value
  pub read : IsRead (on_key key P) reader place value
  pub installed : IsSource (on_key key P) value (source.Installed a commit)
  pub to : reader.id ≡ b

-- rw: a read of a returned a version of a key, which may be the initial one or its own, and b installs the next one
pub record IsAntiDependency (P : Present) (a b : TxnId) : Type 0 where
  pub key : List ℕ
  pub reader : Part
  pub place : ℕ
  pub value : Option Value
  pub version : VersionId
  pub second : Installer
  pub read : IsRead (on_key key P) reader place value
  pub returned : ReturnsVersion (on_key key P) value version
  pub next : IsNext (on_key key P) version second
  pub from : reader.id ≡ a
  pub to : second.txn ≡ b

-- a and b are nodes, and the commit stamp of a and the start stamp of b are so related
pub record AreTimed (P : Present) (R : ℕ → ℕ → Type 0) (a b : TxnId) : Type 0 where
  pub first : Txn
  pub second : Txn
  pub commit : Stamp
  pub later : Stamp
  pub from : IsNode P a first commit
  pub to : IsNode P b second later
  pub timed : R commit.0 second.start.0

-- st: a commits before b starts
abbrev pub IsStartDependency : Present → TxnId → TxnId → Type 0
IsStartDependency P a b = AreTimed P (λ c s. c < s) a b

-- a dependency of that label connects a to b
abbrev pub Connects : Present → Label → TxnId → TxnId → Type 0
Connects P label.Ww a b = IsWriteDependency P a b
Connects P label.Wr a b = IsReadDependency P a b
Connects P label.Rw a b = IsAntiDependency P a b
Connects P label.St a b = IsStartDependency P a b

-- e is an edge of the graph
pub record IsEdge (P : Present) (e : Edge) : Type 0 where
  pub differ : e.from ≢ e.to
  pub connects : Connects P e.label e.from e.to

-- the label is that of a ww or wr edge
abbrev pub IsDependency : Label → Type 0
IsDependency label.Ww = ⊤
IsDependency label.Wr = ⊤
IsDependency label.Rw = ⊥
IsDependency label.St = ⊥
