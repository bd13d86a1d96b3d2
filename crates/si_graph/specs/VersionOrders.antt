-- Version orders. Adya's thesis, chapter 3, gives a history some order of the versions of each key, and its graph and phenomena are by
-- that one. This project takes the order of the commit stamps. Here is the graph by any order, so that a law can say what the choice costs.
use Rattle.std.specs.Prelude.{◌≡◌, ◌≢◌, ◌⊎◌, ◌↔◌, ◌<◌, ℕ, Bool, true, List, Option, ⊤}
use Rattle.std.specs.List.{Contains, AllPairs}
use Rattle.si_model.specs.declared.numbers.TxnId.{TxnId}
use Rattle.si_model.specs.declared.numbers.Stamp.{Stamp}
use Rattle.si_model.specs.declared.numbers.Value.{Value}
use Rattle.si_model.specs.declared.parts.Part.{Part}
use Rattle.si_model.specs.declared.sights.Installer.{Installer}
use Rattle.si_model.specs.declared.sights.VersionId.{VersionId}
use Rattle.si_model.specs.declared.sights.VersionId.TheVariants as version
use Rattle.si_model.specs.declared.evidence.Label.{Label}
use Rattle.si_model.specs.declared.evidence.Label.TheVariants as label
use Rattle.si_model.specs.declared.evidence.Edge.{Edge}
use Rattle.si_model.specs.Parts.{Present, on_key}
use Rattle.si_model.specs.Versions.{IsInstaller}
use Rattle.si_model.specs.Reads.{IsRead, ReturnsVersion}
use Rattle.si_model.specs.History.{IsHistory}
use Rattle.si_graph.specs.Edges.{IsReadDependency, IsStartDependency, IsDependency}
use Rattle.si_graph.specs.Walks.{IsClosed, AreDependencies, HasOneRw}
use Rattle.si_graph.specs.Phenomena.{HasAbortedRead, HasIntermediateRead, IsPlSi}

-- of a key, whether the version that was installed at one commit stamp comes before that of another: a stamp names the version
abbrev pub VersionOrder : Type 0
VersionOrder = List ℕ → Stamp → Stamp → Bool

-- in that order the version of the key that was installed at a comes before that of b
abbrev pub ComesBefore : VersionOrder → List ℕ → Installer → Installer → Type 0
ComesBefore o x a b = o x a.commit b.commit ≡ true

-- it is a total order of the installed versions of each key
pub record OrdersVersions (P : Present) (o : VersionOrder) : Type 0 where
  -- of two versions not each comes before the other, so none comes before itself
  pub one_way : (x : List ℕ) (a b : Installer) → IsInstaller (on_key x P) a → IsInstaller (on_key x P) b → ComesBefore o x a b → ComesBefore o x b a → ⊥
  -- what comes before a version comes before those behind it
  pub transitive : (x : List ℕ) (a b c : Installer) → IsInstaller (on_key x P) a → IsInstaller (on_key x P) b → IsInstaller (on_key x P) c
      → ComesBefore o x a b → ComesBefore o x b c → ComesBefore o x a c
  -- of two different versions one comes before the other
  pub total : (x : List ℕ) (a b : Installer) → IsInstaller (on_key x P) a → IsInstaller (on_key x P) b → a.commit ≢ b.commit → ComesBefore o x a b ⊎ ComesBefore o x b a

-- ---- the graph by that order

-- n's version comes after that one
abbrev pub FollowsBy : VersionOrder → List ℕ → VersionId → Installer → Type 0
FollowsBy o x version.Initial n = ⊤
FollowsBy o x (version.Installed a) n = o x a n.commit ≡ true

-- n installs the version next after that one: it comes after, and none stands between
pub record IsNextBy (P : Present) (o : VersionOrder) (x : List ℕ) (a : VersionId) (n : Installer) : Type 0 where
  pub installs : IsInstaller (on_key x P) n
  pub after : FollowsBy o x a n
  pub first : (m : Installer) → IsInstaller (on_key x P) m → FollowsBy o x a m → ComesBefore o x m n → ⊥

-- ww: a installs a version of a key, and b installs the next one
pub record IsWriteDependencyBy (P : Present) (o : VersionOrder) (a b : TxnId) : Type 0 where
  pub key : List ℕ
  pub first : Installer
  pub second : Installer
  pub installs : IsInstaller (on_key key P) first
  pub next : IsNextBy P o key (version.Installed first.commit) second
  pub from : first.txn ≡ a
  pub to : second.txn ≡ b

-- rw: a read of a returned a version of a key, and b installs the next one
pub record IsAntiDependencyBy (P : Present) (o : VersionOrder) (a b : TxnId) : Type 0 where
  pub key : List ℕ
  pub reader : Part
  pub place : ℕ
  pub value : Option Value
  pub version : VersionId
  pub second : Installer
  pub read : IsRead (on_key key P) reader place value
  pub returned : ReturnsVersion (on_key key P) value version
  pub next : IsNextBy P o key version second
  pub from : reader.id ≡ a
  pub to : second.txn ≡ b

-- a dependency of that label connects a to b; wr and st are the same by every order
abbrev pub ConnectsBy : Present → VersionOrder → Label → TxnId → TxnId → Type 0
ConnectsBy P o label.Ww a b = IsWriteDependencyBy P o a b
ConnectsBy P o label.Wr a b = IsReadDependency P a b
ConnectsBy P o label.Rw a b = IsAntiDependencyBy P o a b
ConnectsBy P o label.St a b = IsStartDependency P a b

-- e is an edge of the graph
pub record IsEdgeBy (P : Present) (o : VersionOrder) (e : Edge) : Type 0 where
  pub differ : e.from ≢ e.to
  pub connects : ConnectsBy P o e.label e.from e.to

-- a directed cycle in it
pub record IsCycleBy (P : Present) (o : VersionOrder) (es : List Edge) : Type 0 where
  pub edges : (e : Edge) → Contains es e → IsEdgeBy P o e
  pub closed : IsClosed es
  pub once : AllPairs (λ e f. e.from ≢ f.from) es

-- PL-SI with that order: none of the phenomena G1 and G-SI is there
pub record IsPlSiBy (P : Present) (o : VersionOrder) : Type 0 where
  pub aborted_reads : HasAbortedRead P → ⊥
  pub intermediate_reads : HasIntermediateRead P → ⊥
  pub circular_flow : (es : List Edge) → IsCycleBy P o es → AreDependencies es → ⊥
  pub interference : (e : Edge) → IsEdgeBy P o e → IsDependency e.label → (IsEdgeBy P o (record e { label = label.St }) → ⊥) → ⊥
  pub missed_effects : (es : List Edge) → IsCycleBy P o es → HasOneRw es → ⊥

-- ---- the laws

-- it is the order of the commit stamps
abbrev pub IsByCommits : Present → VersionOrder → Type 0
IsByCommits P o = (x : List ℕ) (a b : Installer) → IsInstaller (on_key x P) a → IsInstaller (on_key x P) b → ComesBefore o x a b ↔ (a.commit.0 < b.commit.0)

-- any order by which a history is PL-SI is that of the commit stamps: a ww edge needs a start edge beside it
abbrev pub PassingOrdersAreByCommits : Type 0
PassingOrdersAreByCommits = (P : Present) (o : VersionOrder) → IsHistory P → OrdersVersions P o → IsPlSiBy P o → IsByCommits P o

-- by an order that is that of the commit stamps a history is PL-SI exactly where this project says that it is
abbrev pub CommitOrderIsOurs : Type 0
CommitOrderIsOurs = (P : Present) (o : VersionOrder) → IsHistory P → IsByCommits P o → IsPlSiBy P o ↔ IsPlSi P

-- so a history is PL-SI by some version order exactly where it is so by commit stamps, and the choice of the order costs nothing
abbrev pub AnyVersionOrder : Type 0
AnyVersionOrder = (P : Present) → IsHistory P → ((o : VersionOrder) × OrdersVersions P o × IsPlSiBy P o) ↔ IsPlSi P
