-- Which reads and neighbouring versions an edit can change. All of it is this project's choice.
use Rattle.std.specs.Prelude.{◌≡◌, ◌≢◌, ◌⊎◌, ◌↔◌, ℕ, ◌+◌, ◌<◌, ◌≤◌, List, length, Some, None, Option}
use Rattle.std.specs.List.{Contains, AllPairs}
use Rattle.si_model.specs.declared.numbers.TxnId.{TxnId}
use Rattle.si_model.specs.declared.numbers.Stamp.{Stamp}
use Rattle.si_model.specs.declared.numbers.Value.{Value}
use Rattle.si_model.specs.declared.parts.Part.{Part}
use Rattle.si_model.specs.declared.parts.OnKey.{OnKey}
use Rattle.si_model.specs.declared.sights.Installer.{Installer}
use Rattle.si_model.specs.declared.sights.VersionId.{VersionId}
use Rattle.si_model.specs.declared.sights.VersionId.TheVariants as version
use Rattle.si_model.specs.declared.sights.Sight.{Sight}
use Rattle.si_model.specs.Versions.{Writes, IsInstaller, IsNext}
use Rattle.si_model.specs.Reads.{IsRead, IsSight, ReturnsVersion}
use Rattle.si_model.specs.History.{IsOfHistory}

-- ---- an edit on one transaction

-- what is on the key differs at most in the transaction u
pub record DifferIn (u : TxnId) (Q R : OnKey) : Type 0 where
  pub initial : Q.initial ≡ R.initial
  pub parts : (T : Part) → T.id ≢ u → Contains Q.parts T ↔ Contains R.parts T

-- u writes the value that a read returned
abbrev pub WritesReturned : OnKey → TxnId → Option Value → Type 0
WritesReturned Q u v = (w : Value) × (T : Part) × (v ≡ Some w) × Contains Q.parts T × (T.id ≡ u) × Writes T w

-- u installs the version next after the one that a read of v returned
abbrev pub InstallsNext : OnKey → TxnId → Option Value → Type 0
InstallsNext Q u v = (a : VersionId) × (n : Installer) × ReturnsVersion Q v a × IsNext Q a n × (n.txn ≡ u)

-- a read of v is touched by u: u writes the value, or installs the next version
abbrev pub IsTouchedIn : OnKey → TxnId → Option Value → Type 0
IsTouchedIn Q u v = WritesReturned Q u v ⊎ InstallsNext Q u v

-- u installs the version that a reader with that start, whose read returned v, missed
abbrev pub InstallsMissed : OnKey → TxnId → Stamp → Option Value → Type 0
InstallsMissed Q u start v = (a : VersionId) × (n : Installer) × ReturnsVersion Q v a × IsNext Q a n × (n.txn ≡ u) × (n.commit.0 < start.0)

-- what is seen at a read of v by a reader with that start rests on u: u writes the value, or the reader missed u's version
abbrev pub RestsOn : OnKey → TxnId → Stamp → Option Value → Type 0
RestsOn Q u start v = WritesReturned Q u v ⊎ InstallsMissed Q u start v

-- what is seen at a read of another transaction that rests on u neither before nor after is as it was
abbrev pub UntouchedReadsStay : Type 0
UntouchedReadsStay = (Q R : OnKey) (u : TxnId) (T : Part) (i : ℕ) (v : Option Value) (s : Sight)
    → IsOfHistory Q → IsOfHistory R → DifferIn u Q R → IsRead Q T i v → T.id ≢ u
    → (RestsOn Q u T.start v → ⊥) → (RestsOn R u T.start v → ⊥) → IsSight Q T i v s → IsRead R T i v × IsSight R T i v s

-- u installs no version next after that one
abbrev pub InstallsNoneAfter : OnKey → TxnId → VersionId → Type 0
InstallsNoneAfter Q u a = (n : Installer) → IsNext Q a n → n.txn ≢ u

-- two neighbouring versions of other transactions stay so, where u installs none next after the first, neither before nor after
abbrev pub UntouchedPairsStay : Type 0
UntouchedPairsStay = (Q R : OnKey) (u : TxnId) (first second : Installer) → IsOfHistory Q → IsOfHistory R → DifferIn u Q R → IsInstaller Q first → first.txn ≢ u
    → IsNext Q (version.Installed first.commit) second
    → InstallsNoneAfter Q u (version.Installed first.commit) → InstallsNoneAfter R u (version.Installed first.commit)
    → IsInstaller R first × IsNext R (version.Installed first.commit) second

-- ---- a set-up

-- what is on the key differs at most in the set-up value, which it had none of before and is w after
pub record IsSetUp (w : Value) (Q R : OnKey) : Type 0 where
  pub before : Q.initial ≡ None
  pub after : R.initial ≡ Some w
  pub parts : Q.parts ≡ R.parts

-- what is seen at a read that returned neither null nor the value is as it was
abbrev pub OtherReadsStay : Type 0
OtherReadsStay = (Q R : OnKey) (w : Value) (T : Part) (i : ℕ) (v : Option Value) (s : Sight) → IsSetUp w Q R → IsRead Q T i v
    → v ≢ None → v ≢ Some w → IsSight Q T i v s
    → IsRead R T i v × IsSight R T i v s

-- ---- how many judgements an edit may cost

-- a read after an edit on u, named by its transaction and place, that the edit touches: of u itself, or touched before or after
pub record IsTouched (Q R : OnKey) (u : TxnId) (o : TxnId × ℕ) : Type 0 where
  pub part : Part
  pub value : Option Value
  pub read : IsRead R part o.1 value
  pub of : part.id ≡ o.0
  pub touched : (o.0 ≡ u) ⊎ (RestsOn Q u part.start value ⊎ RestsOn R u part.start value)

-- a read that setting the key up with w touches: one that returned null or w
pub record IsTouchedBySetUp (R : OnKey) (w : Value) (o : TxnId × ℕ) : Type 0 where
  pub part : Part
  pub value : Option Value
  pub read : IsRead R part o.1 value
  pub of : part.id ≡ o.0
  pub touched : (value ≡ None) ⊎ (value ≡ Some w)

-- n judgements are within the bound: some reads that are touched, each once, and two neighbouring pairs
pub record IsBoundedBy (IsTouchedRead : TxnId × ℕ → Type 0) (n : ℕ) : Type 0 where
  pub reads : List (TxnId × ℕ)
  pub once : AllPairs (λ o p. o ≢ p) reads
  pub touched : (o : TxnId × ℕ) → Contains reads o → IsTouchedRead o
  pub bound : n ≤ length reads + 2

-- where no read is touched an edit costs the two pairs, and no more
abbrev pub UntouchedCostsTwo : Type 0
UntouchedCostsTwo = (Q R : OnKey) (u : TxnId) (n : ℕ) → ((o : TxnId × ℕ) → IsTouched Q R u o → ⊥) → IsBoundedBy (IsTouched Q R u) n ↔ (n ≤ 2)
