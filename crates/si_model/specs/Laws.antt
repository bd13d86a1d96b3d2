-- The laws of the definitions, each the contract of a public function of `laws` with an empty body. They are this project's.
use Rattle.std.specs.Prelude.{◌≡◌, ◌≢◌, ◌↔◌, ℕ, ◌<◌, Bool, true, false, List, [], ◌∷◌, ◌++◌, Some, Option, slice_get}
use Rattle.std.specs.List.{Contains, AllPairs, filter, find}
use Rattle.std.specs.List.Sorted.{IsStrictlySortedBy}
use Rattle.std.specs.declared.cmp.Ordering.TheVariants.{Equal}
use Rattle.std.specs.Cmp.{IsTotalOrder}
use Rattle.si_model.specs.declared.numbers.TxnId.{TxnId}
use Rattle.si_model.specs.declared.numbers.Stamp.{Stamp}
use Rattle.si_model.specs.declared.numbers.Value.{Value}
use Rattle.si_model.specs.declared.operations.Op.{Op}
use Rattle.si_model.specs.declared.transactions.Txn.{Txn}
use Rattle.si_model.specs.declared.edits.Edit.{Edit}
use Rattle.si_model.specs.declared.edits.Edit.TheVariants as edit
use Rattle.si_model.specs.declared.refusals.Refusal.{Refusal}
use Rattle.si_model.specs.declared.parts.Placed.{Placed}
use Rattle.si_model.specs.declared.parts.Part.{Part}
use Rattle.si_model.specs.declared.parts.OnKey.{OnKey}
use Rattle.si_model.specs.declared.sights.Installer.{Installer}
use Rattle.si_model.specs.declared.sights.VersionId.{VersionId}
use Rattle.si_model.specs.declared.sights.Source.{Source}
use Rattle.si_model.specs.declared.sights.Sight.{Sight}
use Rattle.si_model.specs.declared.kinds.Kind.{Kind}
use Rattle.si_model.specs.declared.kinds.Kind.TheVariants as kind
use Rattle.si_model.specs.declared.findings.Finding.{Finding}
use Rattle.si_model.specs.Operations.{key_of, access_of, same_value, same_key}
use Rattle.si_model.specs.Parts.{Present, accesses, parts, on_key}
use Rattle.si_model.specs.Versions.{Writes, IsFinalWrite, Installs, IsNextIfAny, commit_of, part_writes, last_write, install, next_after}
use Rattle.si_model.specs.Reads.{IsOwnValue, WritesLater, IsSource, IsSight, own_value, writes_later, source_of, sight_of}
use Rattle.si_model.specs.Order.{number, finding_cmp, IsListOf}
use Rattle.si_model.specs.Findings.{Rules, cases, IsFinding, IsFindingOn, findings, findings_on}
use Rattle.si_model.specs.History.{WritesPairAt, IsHistory, IsOfHistory}
use Rattle.si_model.specs.Form.{IsWellFormed, concerns_form}
use Rattle.si_model.specs.Edits.{same_id, same_stamp, with_id, IsAcceptable, AsksRightly, after, least_id, IsLeastId, first_at, IsFirst}
use Rattle.si_model.specs.Journals.{present, IsAccepted}
use Rattle.si_model.specs.KeyEdits.{edited_on}

-- ---- findings

-- of a history, the list of the findings is in strict order and has exactly what the relation says
abbrev pub FindingsAreExact : Type 0
FindingsAreExact = (P : Present) → IsHistory P → IsListOf finding_cmp (IsFinding P) (findings P)

-- the same for one key, whatever the rules
abbrev pub KeyFindingsAreExact : Type 0
KeyFindingsAreExact = (J : Rules) (x : List ℕ) (Q : OnKey) → IsOfHistory Q → IsListOf finding_cmp (IsFindingOn J x Q) (findings_on J x Q)

-- a history is well formed exactly where no finding concerns form
abbrev pub FormIsFound : Type 0
FormIsFound = (P : Present) → IsHistory P → IsWellFormed P ↔ ((f : Finding) → Contains (findings P) f → concerns_form f.kind ≡ false)

-- the order of findings is total, and only equal findings tie
abbrev pub OrderIsStrict : Type 0
OrderIsStrict = IsTotalOrder finding_cmp × ((f g : Finding) → finding_cmp f g ≡ Equal → f ≡ g)

-- two lists have the same elements, in whatever order
abbrev pub HaveSame : {X : Type 0} → List X → List X → Type 0
HaveSame {X} xs ys = (x : X) → Contains xs x ↔ Contains ys x

-- findings have one list in strict order
abbrev pub ListIsUnique : Type 0
ListIsUnique = (fs gs : List Finding) → IsStrictlySortedBy finding_cmp fs → IsStrictlySortedBy finding_cmp gs → HaveSame fs gs → fs ≡ gs

-- ---- what findings depend on

-- the same is present, in whatever order
pub record AreSame (P Q : Present) : Type 0 where
  pub txns : HaveSame P.txns Q.txns
  pub initial : HaveSame P.initial Q.initial

-- the order of what is present doesn't matter
abbrev pub OrderIsFree : Type 0
OrderIsFree = (P Q : Present) → IsHistory P → IsHistory Q → AreSame P Q → findings P ≡ findings Q

-- nor does the order of what is on a key, whatever the rules
abbrev pub KeyOrderIsFree : Type 0
KeyOrderIsFree = (J : Rules) (x : List ℕ) (Q R : OnKey) → IsOfHistory Q → IsOfHistory R
    → Q.initial ≡ R.initial → HaveSame Q.parts R.parts → findings_on J x Q ≡ findings_on J x R

-- two accepted journals that leave the same present have equal findings
abbrev pub JournalOrderIsFree : Type 0
JournalOrderIsFree = (J K : List Edit) → IsAccepted J → IsAccepted K → AreSame (present J) (present K) → findings (present J) ≡ findings (present K)

-- the findings on a key depend on what is on that key alone
abbrev pub KeysAreApart : Type 0
KeysAreApart = (P : Present) (x : List ℕ) → filter (λ f. same_key f.key x) (findings P) ≡ findings_on cases x (on_key x P)

-- what is on a key of a history is of a history
abbrev pub KeysAreOfHistory : Type 0
KeysAreOfHistory = (P : Present) (x : List ℕ) → IsHistory P → IsOfHistory (on_key x P)

-- ---- what is on a key

-- Q is what T does on the key x, which is something
pub record IsPartOf (x : List ℕ) (T : Txn) (Q : Part) : Type 0 where
  pub id : Q.id ≡ T.id
  pub start : Q.start ≡ T.start
  pub status : Q.status ≡ T.status
  pub accesses : Q.accesses ≡ accesses x T.ops
  pub some : (a : Placed) × Contains Q.accesses a

-- the parts on a key are what the transactions do there
abbrev pub PartsAreOfTransactions : Type 0
PartsAreOfTransactions = (x : List ℕ) (txns : List Txn) (Q : Part) → Contains (parts x txns) Q ↔ ((T : Txn) × Contains txns T × IsPartOf x T Q)

-- the accesses of a key are the operations on it, at their places
abbrev pub AccessesAreOperations : Type 0
AccessesAreOperations = (x : List ℕ) (ops : List Op) (a : Placed)
    → Contains (accesses x ops) a ↔ ((p : Op) × (slice_get ops a.place ≡ Some p) × (key_of p ≡ x) × (access_of p ≡ a.access))

-- one id is of one part, one value of one writer, one commit stamp of one installer
pub record PartsAreApart (Q : OnKey) : Type 0 where
  pub ids : (A B : Part) → Contains Q.parts A → Contains Q.parts B → A.id ≡ B.id → A ≡ B
  pub writers : (A B : Part) (v : Value) → Contains Q.parts A → Contains Q.parts B → Writes A v → Writes B v → A ≡ B
  pub installers : (A B : Part) (m n : Installer) → Contains Q.parts A → Contains Q.parts B → Installs A m → Installs B n → m.commit ≡ n.commit → A ≡ B

-- of a history they are apart
abbrev pub PartsDiffer : Type 0
PartsDiffer = (Q : OnKey) → IsOfHistory Q → PartsAreApart Q

-- what an edit makes of what is on a key
abbrev pub KeyEditsAreEdits : Type 0
KeyEditsAreEdits = (P : Present) (e : Edit) (x : List ℕ) → IsAcceptable P e → on_key x (after e P) ≡ edited_on x e (on_key x P)

-- ---- the functions are what the relations say

-- the tests of equality tell equality
pub record TestsDecide : Type 0 where
  pub ids : (u w : TxnId) → (same_id u w ≡ true) ↔ (u ≡ w)
  pub stamps : (s c : Stamp) → (same_stamp s c ≡ true) ↔ (s ≡ c)
  pub values : (v w : Value) → (same_value v w ≡ true) ↔ (v ≡ w)
  pub keys : (x y : List ℕ) → (same_key x y ≡ true) ↔ (x ≡ y)

-- the last write is the final one
abbrev pub LastWriteIsFinal : Type 0
LastWriteIsFinal = (Q : OnKey) (T : Part) (v : Value) → IsOfHistory Q → Contains Q.parts T → (last_write T.accesses ≡ Some v) ↔ IsFinalWrite T v

-- the own value is that of the last write before
abbrev pub OwnValueIsLast : Type 0
OwnValueIsLast = (Q : OnKey) (T : Part) (i : ℕ) (w : Value) → IsOfHistory Q → Contains Q.parts T → (own_value T i ≡ Some w) ↔ IsOwnValue T i w

-- a later write is a write after the place
abbrev pub LaterIsLater : Type 0
LaterIsLater = (T : Part) (i : ℕ) (v : Option Value) → (writes_later T i v ≡ true) ↔ ((w : Value) × (v ≡ Some w) × WritesLater T i w)

-- the transaction that is found writes the value
abbrev pub WriterIsFound : Type 0
WriterIsFound = (Q : OnKey) (v : Value) (T : Part) → IsOfHistory Q → (find (part_writes v) Q.parts ≡ Some T) ↔ (Contains Q.parts T × Writes T v)

-- the transaction that is found has the id
abbrev pub IdIsFound : Type 0
IdIsFound = (P : Present) (u : TxnId) (T : Txn) → IsHistory P → (with_id P.txns u ≡ Some T) ↔ (Contains P.txns T × (T.id ≡ u))

-- a transaction is taken for an installer exactly where it installs
abbrev pub InstallIsExact : Type 0
InstallIsExact = (T : Part) (n : Installer) → (install T ≡ Some n) ↔ Installs T n

-- the version that is found is the next one
abbrev pub NextIsExact : Type 0
NextIsExact = (Q : OnKey) (a : VersionId) (n : Option Installer) → IsOfHistory Q → IsNextIfAny Q a n ↔ (n ≡ next_after Q.parts a)

-- the source that is found is where the value comes from
abbrev pub SourceIsExact : Type 0
SourceIsExact = (Q : OnKey) (v : Option Value) (s : Source) → IsOfHistory Q → IsSource Q v s ↔ (s ≡ source_of Q v)

-- the sight that is found is what is seen
abbrev pub SightIsExact : Type 0
SightIsExact = (Q : OnKey) (T : Part) (i : ℕ) (v : Option Value) (s : Sight) → IsOfHistory Q → Contains Q.parts T → IsSight Q T i v s ↔ (s ≡ sight_of Q T i v)

-- the id that is found is the least that passes the test
abbrev pub LeastIsLeast : Type 0
LeastIsLeast = (holds : Txn → Bool) (txns : List Txn) → IsLeastId holds txns (least_id holds txns)

-- the refusal that is found is that of the first operation that has one
abbrev pub FirstIsFirst : Type 0
FirstIsFirst = (f : ℕ → Op → Option Refusal) (ps : List Op) → IsFirst f ps (first_at f 0 ps)

-- ---- journals

-- what is present after one more edit
abbrev pub PresentGrows : Type 0
PresentGrows = (edits : List Edit) (e : Edit) → present (edits ++ e ∷ []) ≡ after e (present edits)

-- an accepted journal with one more acceptable edit is accepted, and no other is
abbrev pub AcceptedGrows : Type 0
AcceptedGrows = (edits : List Edit) (e : Edit) → IsAccepted (edits ++ e ∷ []) ↔ (IsAccepted edits × IsAcceptable (present edits) e)

-- the beginning of an accepted journal is accepted
abbrev pub AcceptedBegins : Type 0
AcceptedBegins = (edits more : List Edit) → IsAccepted (edits ++ more) → IsAccepted edits

-- what is present after an accepted journal is a history
abbrev pub PresentIsHistory : Type 0
PresentIsHistory = (edits : List Edit) → IsAccepted edits → IsHistory (present edits)

-- of a history, an edit is acceptable exactly where it asks rightly and leaves a history
abbrev pub AcceptanceIsExact : Type 0
AcceptanceIsExact = (P : Present) (e : Edit) → IsHistory P → IsAcceptable P e ↔ (AsksRightly P e × IsHistory (after e P))

-- a history in which no transaction has one stamp for its start and its commit, or shares a commit stamp, and no key is set up
pub record IsStrictHistory (P : Present) : Type 0 where
  pub forward : (T : Txn) (c : Stamp) → Contains P.txns T → commit_of T.status ≡ Some c → T.start.0 < c.0
  pub names : AllPairs (λ A B. A.id ≢ B.id) P.txns
  pub stamps : (A B : Txn) (c : Stamp) → Contains P.txns A → Contains P.txns B → A.id ≢ B.id → commit_of A.status ≡ Some c
      → (c ≢ B.start) × (commit_of B.status ≢ Some c)
  pub writes : (A B : Txn) (i j : ℕ) (x : List ℕ) (v : Value) → Contains P.txns A → Contains P.txns B → WritesPairAt A i x v → WritesPairAt B j x v
      → (A.id ≡ B.id) × (i ≡ j)
  pub unset : P.initial ≡ []

-- each edit asks rightly and leaves a strict history
abbrev pub IsStrictJournal : List Edit → Type 0
IsStrictJournal edits = (before : List Edit) (e : Edit) (rest : List Edit) → edits ≡ before ++ e ∷ rest
    → AsksRightly (present before) e × IsStrictHistory (present (before ++ e ∷ []))

-- a strict journal is accepted
abbrev pub StrictJournalsAreAccepted : Type 0
StrictJournalsAreAccepted = (edits : List Edit) → IsStrictJournal edits → IsAccepted edits

-- ---- what stays

-- no transaction is withdrawn by these edits
abbrev pub WithdrawNothing : List Edit → Type 0
WithdrawNothing edits = (u : TxnId) → Contains edits (edit.Withdraw u) → ⊥

-- nor is the key set up by them
abbrev pub LeaveUnset : List ℕ → List Edit → Type 0
LeaveUnset x edits = (v : Value) → Contains edits (edit.SetUp x v) → ⊥

-- the second kind tells again what the first told: a stale read may have missed a nearer version too, and another version may come
-- between two that overlap, whose second one then overlaps with it; every other kind is told as it was
abbrev pub TellsAgain : Kind → Kind → Type 0
TellsAgain (kind.Stale t i v n) k = (m : TxnId) × (k ≡ kind.Stale t i v m)
TellsAgain (kind.Overlap a b) k = (c : TxnId) × (k ≡ kind.Overlap c b)
TellsAgain j k = k ≡ j

-- a violation is told again on its key, whatever is accepted later, where nothing is withdrawn and the key isn't set up
abbrev pub ViolationsStay : Type 0
ViolationsStay = (edits more : List Edit) (f : Finding) → IsAccepted (edits ++ more) → WithdrawNothing more → LeaveUnset f.key more
    → Contains (findings (present edits)) f → 2 < number f.kind
    → (k : Kind) × Contains (findings (present (edits ++ more))) (record { key = f.key; kind = k }) × TellsAgain f.kind k

-- what is present shows a finding that doesn't concern form
abbrev pub ShowsPhenomenon : Present → Type 0
ShowsPhenomenon P = (f : Finding) × Contains (findings P) f × (concerns_form f.kind ≡ false)

-- an accepted journal that shows one shows one still, whatever is accepted later, where nothing is withdrawn and no key is set up
abbrev pub PhenomenaStay : Type 0
PhenomenaStay = (edits more : List Edit) → IsAccepted edits → IsAccepted (edits ++ more) → WithdrawNothing more → ((x : List ℕ) → LeaveUnset x more)
    → ShowsPhenomenon (present edits) → ShowsPhenomenon (present (edits ++ more))
