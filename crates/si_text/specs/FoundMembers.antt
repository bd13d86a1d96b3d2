-- The members of a line, whatever their order, and what is found of them: of those with one name the last.
use Rattle.std.specs.Prelude.{◌≡◌, ◌≤◌, ⊤, ℕ, List, ◌∷◌, length, codes, All, Option, Some, IfSome}
use Rattle.json.specs.Token as tokens
use Rattle.json.specs.Token.{Token}
use Rattle.json.specs.Json as json
use Rattle.json.specs.Json.{value}
use Rattle.serde_json.specs.Data.{unsigned, Data, number, string, array, object, Members, put}
use Rattle.serde_json.specs.Find.{get}
use Rattle.serde_json.specs.Read.{of_json}
use Rattle.si_model.specs.KeyTexts.{IsKeyText}
use Rattle.si_model.specs.Operations.{key_of}
use Rattle.si_model.specs.declared.edits.Edit.{Edit}
use Rattle.si_model.specs.declared.operations.TheConstants.{MOST_OPS}
use Rattle.si_model.specs.declared.transactions.Status as statuses
use Rattle.si_text.specs.Conditions.{HasNumber, HasText}
use Rattle.si_text.specs.Telling.{op_values, TellsStatus, Tells, KeepsLimits}
use Rattle.si_text.specs.declared.found_members.Found.{Found}
use Rattle.si_text.specs.declared.found_members.LineKind.{LineKind}
use Rattle.si_text.specs.declared.found_members.LineKind.TheVariants as kinds
use Rattle.si_text.specs.declared.found_members.Member.{Member}
use Rattle.si_text.specs.declared.found_members.Member.TheVariants.{Kind, Id, Start, Status, Commit, Ops, Key, Value}
use Rattle.si_text.specs.declared.found_members.StatusWord.{StatusWord}
use Rattle.si_text.specs.declared.found_members.StatusWord.TheVariants as words

-- ---- members

abbrev pub kind_word : LineKind → List ℕ
kind_word kinds.Arrive = codes "txn"
kind_word kinds.Resolve = codes "resolve"
kind_word kinds.Withdraw = codes "withdraw"
kind_word kinds.SetUp = codes "setup"

abbrev pub status_word : StatusWord → List ℕ
status_word words.Committed = codes "committed"
status_word words.Aborted = codes "aborted"
status_word words.InDoubt = codes "indoubt"

abbrev pub member_name : Member → List ℕ
member_name (Kind kind) = codes "do"
member_name (Id id) = codes "id"
member_name (Start start) = codes "start"
member_name (Status status) = codes "status"
member_name (Commit commit) = codes "commit"
member_name (Ops ops) = codes "ops"
member_name (Key key) = codes "key"
member_name (Value value) = codes "value"

-- the JSON value of the member
abbrev pub member_value : Member → Data
member_value (Kind kind) = string (kind_word kind)
member_value (Id id) = number (unsigned id)
member_value (Start start) = number (unsigned start)
member_value (Status status) = string (status_word status)
member_value (Commit commit) = number (unsigned commit)
member_value (Ops ops) = array (op_values ops)
member_value (Key key) = string key
member_value (Value value) = number (unsigned value)

-- it keeps the limits of a line
abbrev pub IsWithin : Member → Type 0
IsWithin (Kind kind) = ⊤
IsWithin (Id id) = ⊤
IsWithin (Start start) = ⊤
IsWithin (Status status) = ⊤
IsWithin (Commit commit) = ⊤
IsWithin (Ops ops) = (length ops ≤ MOST_OPS) × All (λ op. IsKeyText (key_of op)) ops
IsWithin (Key key) = IsKeyText key
IsWithin (Value value) = ⊤

-- ---- what was found

abbrev pub HasMember : Found → Member → Type 0
HasMember found (Kind kind) = found.kind ≡ Some kind
HasMember found (Id id) = found.id ≡ Some id
HasMember found (Start start) = found.start ≡ Some start
HasMember found (Status status) = found.status ≡ Some status
HasMember found (Commit commit) = found.commit ≡ Some commit
HasMember found (Ops ops) = found.ops ≡ Some ops
HasMember found (Key key) = found.key ≡ Some key
HasMember found (Value value) = found.value ≡ Some value

-- each member that was found stands in the object with these members
abbrev pub AreFound : Found → Members → Type 0
AreFound found all = (m : Member) → HasMember found m → (get (member_name m) (object all) ≡ Some (member_value m)) × IsWithin m

-- with this member more than before
abbrev pub Joins : Found → Member → Found → Type 0
Joins before m after = (all : Members) → AreFound before all → AreFound after (put (member_name m) (member_value m) all)

-- the status of this word and stamp
abbrev pub MeansStatus : StatusWord → Option ℕ → statuses.Status → Type 0
MeansStatus word commit status = (d : Data) → HasText d (codes "status") (status_word word) → IfSome commit (HasNumber d (codes "commit")) → TellsStatus d status

-- an object with these members is the line of the edit
abbrev pub Means : Found → Edit → Type 0
Means found edit = (all : Members) → AreFound found all → Tells (object all) edit × KeepsLimits edit

-- ---- tokens

-- the tokens begin with this value, nested no deeper than the number, and the new ones are left
pub record Begins (depth : ℕ) (d : Data) (old new : List Token) : Type 0 where
  pub from : json.Json
  pub reads : value depth old ≡ Some (from, new)
  pub means : of_json from ≡ Some d

-- they begin with the value of this member
pub record TakesValue (m : Member) (old new : List Token) : Type 0 where
  pub begins : Begins 126 (member_value m) old new
  pub within : IsWithin m

-- with the name of the member and its value
pub record TakesMember (m : Member) (old new : List Token) : Type 0 where
  pub mid : List Token
  pub name : old ≡ tokens.key (member_name m) ∷ mid
  pub value : TakesValue m mid new

-- with an object that has these members
pub record TakesObject (found : Found) (old new : List Token) : Type 0 where
  pub all : Members
  pub begins : Begins 127 (object all) old new
  pub said : AreFound found all
