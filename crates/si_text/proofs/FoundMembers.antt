-- What is found of the members of a line, and the line that has them.
use Rattle.std.proofs.Common.{◌≡◌, ◌≤◌, ℕ, List, [], ◌∷◌, length, codes, false, Option, Some, None, Ok, refl, sym, ap, subst, ◌∙◌, arith}
use Rattle.std.specs.Option.{IfSome}
use Rattle.std.specs.Str.{IsUtf8, bytes_eq}
use Rattle.std.proofs.lemmas.Bool.{true≢false}
use Rattle.std.proofs.lemmas.Slice.Eq.{bytes_eq-Decides}
use Rattle.json.specs.Token as tokens
use Rattle.json.specs.Token.{Token}
use Rattle.json.specs.Json.{read_key}
use Rattle.json.specs.Lex as lex
use Rattle.serde_json.specs.Data.{unsigned, Data, number, string, object, Members, no_members, put}
use Rattle.serde_json.specs.Find.{get}
use Rattle.serde_json.proofs.Views.{get_member-put, get_member-put_other}
use Rattle.si_model.specs.declared.edits.Edit.{Edit}
use Rattle.si_model.specs.declared.edits.Edit.TheVariants.{Arrive, Resolve, Withdraw, SetUp}
use Rattle.si_model.specs.declared.numbers.TxnId.{TxnId}
use Rattle.si_model.specs.declared.numbers.Value as numbers
use Rattle.si_model.specs.declared.operations.Op.{Op}
use Rattle.si_model.specs.declared.transactions.Outcome.{Outcome}
use Rattle.si_model.specs.declared.transactions.Txn.{Txn}
use Rattle.si_text.specs.Conditions.{HasNumber}
use Rattle.si_text.specs.FoundMembers.{member_name, member_value, IsWithin, HasMember, AreFound, Joins, MeansStatus, Means, Begins, TakesValue, TakesMember, TakesObject}
use Rattle.si_text.specs.Lines.{edit_of}
use Rattle.si_text.specs.Telling.{status_of}
use Rattle.si_text.specs.TokenOperations.{TakesNumeral}
use Rattle.si_text.specs.declared.found_members.Found.{Found}
use Rattle.si_text.specs.declared.found_members.LineKind.{LineKind}
use Rattle.si_text.specs.declared.found_members.LineKind.TheVariants as kinds
use Rattle.si_text.specs.declared.found_members.Member.{Member}
use Rattle.si_text.specs.declared.found_members.Member.TheVariants.{Kind, Id, Start, Status, Commit, Ops, Key, Value}
use Rattle.si_text.specs.declared.found_members.StatusWord.{StatusWord}
use Rattle.si_text.specs.declared.read_edits.TheConstants.{MOST_LINE_BYTES}
use Rattle.si_text.proofs.LineValues.{value_of_utf8}
use Rattle.si_text.proofs.ValueTokens.{string_begins, number_begins, MembersBegin, no_member_begins, member_begins, object_begins, whole_read}
use Rattle.si_text.proofs.WrittenLines.{read_back}

-- ---- one more member

-- the member stands in the object, and keeps its limits
abbrev Stands : Member → Members → Type 0
Stands m all = (get (member_name m) (object all) ≡ Some (member_value m)) × IsWithin m

-- the object with one more member
abbrev with : Member → Members → Members
with new all = put (member_name new) (member_value new) all

apart : (k l : List ℕ) → bytes_eq k l ≡ false → k ≡ l → ⊥
apart k l differ same = true≢false (sym ((bytes_eq-Decides k l).1 same) ∙ differ)

kept : (m new : Member) (all : Members) → bytes_eq (member_name m) (member_name new) ≡ false → Stands m all → Stands m (with new all)
kept m new all differ h = (get_member-put_other (member_name m) (member_name new) (member_value new) all (apart (member_name m) (member_name new) differ) ∙ h.0, h.1)

there : (m new : Member) (all : Members) → new ≡ m → IsWithin new → Stands m (with new all)
there m new all is within = subst (λ x. Stands x (with new all)) is (get_member-put (member_name new) (member_value new) all, within)

pub kind_joins : (f : Found) (x : LineKind) → Joins f (Kind x) (record { kind = Some x; id = f.id; start = f.start; status = f.status; commit = f.commit; ops = f.ops; key = f.key; value = f.value })
kind_joins f x all h (Kind y) e = let same : x ≡ y = cc in there (Kind y) (Kind x) all (ap Kind same) tt
kind_joins f x all h (Id y) e = kept (Id y) (Kind x) all refl (h (Id y) e)
kind_joins f x all h (Start y) e = kept (Start y) (Kind x) all refl (h (Start y) e)
kind_joins f x all h (Status y) e = kept (Status y) (Kind x) all refl (h (Status y) e)
kind_joins f x all h (Commit y) e = kept (Commit y) (Kind x) all refl (h (Commit y) e)
kind_joins f x all h (Ops y) e = kept (Ops y) (Kind x) all refl (h (Ops y) e)
kind_joins f x all h (Key y) e = kept (Key y) (Kind x) all refl (h (Key y) e)
kind_joins f x all h (Value y) e = kept (Value y) (Kind x) all refl (h (Value y) e)

pub id_joins : (f : Found) (x : ℕ) → Joins f (Id x) (record { kind = f.kind; id = Some x; start = f.start; status = f.status; commit = f.commit; ops = f.ops; key = f.key; value = f.value })
id_joins f x all h (Kind y) e = kept (Kind y) (Id x) all refl (h (Kind y) e)
id_joins f x all h (Id y) e = let same : x ≡ y = cc in there (Id y) (Id x) all (ap Id same) tt
id_joins f x all h (Start y) e = kept (Start y) (Id x) all refl (h (Start y) e)
id_joins f x all h (Status y) e = kept (Status y) (Id x) all refl (h (Status y) e)
id_joins f x all h (Commit y) e = kept (Commit y) (Id x) all refl (h (Commit y) e)
id_joins f x all h (Ops y) e = kept (Ops y) (Id x) all refl (h (Ops y) e)
id_joins f x all h (Key y) e = kept (Key y) (Id x) all refl (h (Key y) e)
id_joins f x all h (Value y) e = kept (Value y) (Id x) all refl (h (Value y) e)

pub start_joins : (f : Found) (x : ℕ) → Joins f (Start x) (record { kind = f.kind; id = f.id; start = Some x; status = f.status; commit = f.commit; ops = f.ops; key = f.key; value = f.value })
start_joins f x all h (Kind y) e = kept (Kind y) (Start x) all refl (h (Kind y) e)
start_joins f x all h (Id y) e = kept (Id y) (Start x) all refl (h (Id y) e)
start_joins f x all h (Start y) e = let same : x ≡ y = cc in there (Start y) (Start x) all (ap Start same) tt
start_joins f x all h (Status y) e = kept (Status y) (Start x) all refl (h (Status y) e)
start_joins f x all h (Commit y) e = kept (Commit y) (Start x) all refl (h (Commit y) e)
start_joins f x all h (Ops y) e = kept (Ops y) (Start x) all refl (h (Ops y) e)
start_joins f x all h (Key y) e = kept (Key y) (Start x) all refl (h (Key y) e)
start_joins f x all h (Value y) e = kept (Value y) (Start x) all refl (h (Value y) e)

pub status_joins : (f : Found) (x : StatusWord) → Joins f (Status x) (record { kind = f.kind; id = f.id; start = f.start; status = Some x; commit = f.commit; ops = f.ops; key = f.key; value = f.value })
status_joins f x all h (Kind y) e = kept (Kind y) (Status x) all refl (h (Kind y) e)
status_joins f x all h (Id y) e = kept (Id y) (Status x) all refl (h (Id y) e)
status_joins f x all h (Start y) e = kept (Start y) (Status x) all refl (h (Start y) e)
status_joins f x all h (Status y) e = let same : x ≡ y = cc in there (Status y) (Status x) all (ap Status same) tt
status_joins f x all h (Commit y) e = kept (Commit y) (Status x) all refl (h (Commit y) e)
status_joins f x all h (Ops y) e = kept (Ops y) (Status x) all refl (h (Ops y) e)
status_joins f x all h (Key y) e = kept (Key y) (Status x) all refl (h (Key y) e)
status_joins f x all h (Value y) e = kept (Value y) (Status x) all refl (h (Value y) e)

pub commit_joins : (f : Found) (x : ℕ) → Joins f (Commit x) (record { kind = f.kind; id = f.id; start = f.start; status = f.status; commit = Some x; ops = f.ops; key = f.key; value = f.value })
commit_joins f x all h (Kind y) e = kept (Kind y) (Commit x) all refl (h (Kind y) e)
commit_joins f x all h (Id y) e = kept (Id y) (Commit x) all refl (h (Id y) e)
commit_joins f x all h (Start y) e = kept (Start y) (Commit x) all refl (h (Start y) e)
commit_joins f x all h (Status y) e = kept (Status y) (Commit x) all refl (h (Status y) e)
commit_joins f x all h (Commit y) e = let same : x ≡ y = cc in there (Commit y) (Commit x) all (ap Commit same) tt
commit_joins f x all h (Ops y) e = kept (Ops y) (Commit x) all refl (h (Ops y) e)
commit_joins f x all h (Key y) e = kept (Key y) (Commit x) all refl (h (Key y) e)
commit_joins f x all h (Value y) e = kept (Value y) (Commit x) all refl (h (Value y) e)

pub ops_joins : (f : Found) (x : List Op) → IsWithin (Ops x) → Joins f (Ops x) (record { kind = f.kind; id = f.id; start = f.start; status = f.status; commit = f.commit; ops = Some x; key = f.key; value = f.value })
ops_joins f x within all h (Kind y) e = kept (Kind y) (Ops x) all refl (h (Kind y) e)
ops_joins f x within all h (Id y) e = kept (Id y) (Ops x) all refl (h (Id y) e)
ops_joins f x within all h (Start y) e = kept (Start y) (Ops x) all refl (h (Start y) e)
ops_joins f x within all h (Status y) e = kept (Status y) (Ops x) all refl (h (Status y) e)
ops_joins f x within all h (Commit y) e = kept (Commit y) (Ops x) all refl (h (Commit y) e)
ops_joins f x within all h (Ops y) e = let same : x ≡ y = cc in there (Ops y) (Ops x) all (ap Ops same) within
ops_joins f x within all h (Key y) e = kept (Key y) (Ops x) all refl (h (Key y) e)
ops_joins f x within all h (Value y) e = kept (Value y) (Ops x) all refl (h (Value y) e)

pub key_joins : (f : Found) (x : List ℕ) → IsWithin (Key x) → Joins f (Key x) (record { kind = f.kind; id = f.id; start = f.start; status = f.status; commit = f.commit; ops = f.ops; key = Some x; value = f.value })
key_joins f x within all h (Kind y) e = kept (Kind y) (Key x) all refl (h (Kind y) e)
key_joins f x within all h (Id y) e = kept (Id y) (Key x) all refl (h (Id y) e)
key_joins f x within all h (Start y) e = kept (Start y) (Key x) all refl (h (Start y) e)
key_joins f x within all h (Status y) e = kept (Status y) (Key x) all refl (h (Status y) e)
key_joins f x within all h (Commit y) e = kept (Commit y) (Key x) all refl (h (Commit y) e)
key_joins f x within all h (Ops y) e = kept (Ops y) (Key x) all refl (h (Ops y) e)
key_joins f x within all h (Key y) e = let same : x ≡ y = cc in there (Key y) (Key x) all (ap Key same) within
key_joins f x within all h (Value y) e = kept (Value y) (Key x) all refl (h (Value y) e)

pub value_joins : (f : Found) (x : ℕ) → Joins f (Value x) (record { kind = f.kind; id = f.id; start = f.start; status = f.status; commit = f.commit; ops = f.ops; key = f.key; value = Some x })
value_joins f x all h (Kind y) e = kept (Kind y) (Value x) all refl (h (Kind y) e)
value_joins f x all h (Id y) e = kept (Id y) (Value x) all refl (h (Id y) e)
value_joins f x all h (Start y) e = kept (Start y) (Value x) all refl (h (Start y) e)
value_joins f x all h (Status y) e = kept (Status y) (Value x) all refl (h (Status y) e)
value_joins f x all h (Commit y) e = kept (Commit y) (Value x) all refl (h (Commit y) e)
value_joins f x all h (Ops y) e = kept (Ops y) (Value x) all refl (h (Ops y) e)
value_joins f x all h (Key y) e = kept (Key y) (Value x) all refl (h (Key y) e)
value_joins f x all h (Value y) e = let same : x ≡ y = cc in there (Value y) (Value x) all (ap Value same) tt

-- ---- the value of a member

module _ (m : Member) (old new : List Token) (within : IsWithin m) where
  value_of : (d : Data) → member_value m ≡ d → Begins 126 d old new → TakesValue m old new
  value_of d is begins = record { begins = subst (λ x. Begins 126 x old new) (sym is) begins; within = within }

pub numeral_value : (m : Member) (n : ℕ) (old new : List Token) → member_value m ≡ number (unsigned n) → IsWithin m → TakesNumeral n old new → TakesValue m old new
numeral_value m n old new is within h = value_of m old new within (number (unsigned n)) is (subst (λ ts. Begins 126 (number (unsigned n)) ts new) (sym h.is) (number_begins 126 new h.text n h.reads))

pub text_value : (m : Member) (text : List ℕ) (old new : List Token) → member_value m ≡ string text → IsWithin m → old ≡ tokens.string text ∷ new → TakesValue m old new
text_value m text old new is within e = value_of m old new within (string text) is (subst (λ ts. Begins 126 (string text) ts new) (sym e) (string_begins 126 new text))

-- ---- the edit that they are

module _ (f : Found) (all : Members) (found : AreFound f all) where
  commit_found : (commit : Option ℕ) → f.commit ≡ commit → IfSome commit (HasNumber (object all) (codes "commit"))
  commit_found None e = tt
  commit_found (Some commit) e = (found (Commit commit) e).0

pub arrival_means : (f : Found) (word : StatusWord) (txn : Txn) → f.kind ≡ Some kinds.Arrive → f.id ≡ Some txn.id.0 → f.start ≡ Some txn.start.0 → f.status ≡ Some word → MeansStatus word f.commit txn.status → f.ops ≡ Some txn.ops
    → Means f (Arrive txn)
arrival_means f word txn kind id start status means ops all found =
    let items = found (Ops txn.ops) ops in (
      (
        (found (Kind kinds.Arrive) kind).0,
        (found (Id txn.id.0) id).0,
        (found (Start txn.start.0) start).0,
        means (object all) (found (Status word) status).0 (commit_found f all found f.commit refl),
        items.0,
      ),
      items.1,
    )

pub resolution_means : (f : Found) (word : StatusWord) (id : TxnId) (outcome : Outcome) → f.kind ≡ Some kinds.Resolve → f.id ≡ Some id.0 → f.status ≡ Some word → MeansStatus word f.commit (status_of outcome) → Means f (Resolve id outcome)
resolution_means f word id outcome kind named status means all found = (
  (
    (found (Kind kinds.Resolve) kind).0,
    (found (Id id.0) named).0,
    means (object all) (found (Status word) status).0 (commit_found f all found f.commit refl),
  ),
  tt,
)

pub withdrawal_means : (f : Found) (id : TxnId) → f.kind ≡ Some kinds.Withdraw → f.id ≡ Some id.0 → Means f (Withdraw id)
withdrawal_means f id kind named all found = (((found (Kind kinds.Withdraw) kind).0, (found (Id id.0) named).0), tt)

pub set_up_means : (f : Found) (key : List ℕ) (n : numbers.Value) → f.kind ≡ Some kinds.SetUp → f.key ≡ Some key → f.value ≡ Some n.0 → Means f (SetUp key n)
set_up_means f key n kind text value all found =
    let named = found (Key key) text in
    (((found (Kind kinds.SetUp) kind).0, named.0, (found (Value n.0) value).0), named.1)

-- ---- taking the members one after another

-- these members were taken: whatever the members that are left, the object has all of them
pub record AreRead (whole left : List Token) (found : Found) : Type 0 where
  pub all : Members
  pub said : AreFound found all
  pub rest : (ds : Members) (new : List Token) → MembersBegin 126 all ds left new → MembersBegin 126 no_members ds whole new

-- none was found
abbrev pub found_none : Found
found_none = record { kind = None; id = None; start = None; status = None; commit = None; ops = None; key = None; value = None }

none_found : (m : Member) → HasMember found_none m → Stands m no_members
none_found (Kind x) e = cc
none_found (Id x) e = cc
none_found (Start x) e = cc
none_found (Status x) e = cc
none_found (Commit x) e = cc
none_found (Ops x) e = cc
none_found (Key x) e = cc
none_found (Value x) e = cc

pub none_read : (whole : List Token) (found : Found) → found ≡ found_none → AreRead whole whole found
none_read whole found is = record { all = no_members; said = subst (λ f. AreFound f no_members) (sym is) none_found; rest = λ ds new h. h }

module _ (whole old new : List Token) (before after : Found) (m : Member) (read : AreRead whole old before) (joins : Joins before m after) where
  pub one_named : (mid : List Token) → read_key old ≡ Some (Some (member_name m), mid) → TakesValue m mid new → AreRead whole new after
  one_named mid named value = record {
    all = with m read.all;
    said = joins read.all read.said;
    rest = λ ds n others. read.rest ds n (member_begins 126 (member_name m) (member_value m) read.all ds old mid new n named value.begins others);
  }

  pub one_read : TakesMember m old new → AreRead whole new after
  one_read taken = one_named taken.mid (ap read_key taken.name) taken.value

pub all_read : (whole left new : List Token) (found : Found) → AreRead whole left found → read_key left ≡ Some (None, new) → TakesObject found (tokens.begin_object ∷ whole) new
all_read whole left new found read end = record {
  all = read.all;
  begins = object_begins 127 read.all whole new (omega arith) (read.rest read.all new (no_member_begins 126 read.all left new end));
  said = read.said;
}

-- ---- the line

object_read : (line : List ℕ) (found : Found) (edit : Edit) → length line ≤ MOST_LINE_BYTES → IsUtf8 line → TakesObject found (lex.tokens line) [] → Means found edit → edit_of line ≡ Ok edit
object_read line found edit within utf8 taken means =
    let said = means taken.all taken.said in
    read_back line (object taken.all) edit within (value_of_utf8 line (object taken.all) utf8 (whole_read line (object taken.all) taken.begins)) said.1 said.0

pub edit_read : (line : List ℕ) (found : Found) (o : Option Edit) → length line ≤ MOST_LINE_BYTES → IsUtf8 line → TakesObject found (lex.tokens line) [] → IfSome o (Means found) → IfSome o (λ edit. edit_of line ≡ Ok edit)
edit_read line found None within utf8 taken means = tt
edit_read line found (Some edit) within utf8 taken means = object_read line found edit within utf8 taken means
