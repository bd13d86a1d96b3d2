-- A line that is written for an edit is read as that edit.
use Rattle.std.proofs.Common.{◌≡◌, ◌≤◌, ◌+◌, ℕ, suc, List, [], ◌∷◌, length, codes, true, false, cond, nat_lt, All, Option, Some, None, is_some, option_and_then, Result, Ok, Err, refl, sym, ap, subst, ◌∙◌, arith}
use Rattle.std.proofs.lemmas.Bool.Decides.{nat_tests}
use Rattle.serde_json.specs.Data.{Data, null, boolean, number, string, array, object}
use Rattle.serde_json.specs.Find.{get, as_object, as_str, as_array}
use Rattle.si_model.specs.KeyTexts.{IsKeyText}
use Rattle.si_model.specs.Operations.{key_of}
use Rattle.si_model.specs.declared.edits.Edit.{Edit}
use Rattle.si_model.specs.declared.edits.Edit.TheVariants.{Arrive, Resolve, Withdraw, SetUp}
use Rattle.si_model.specs.declared.operations.Op.{Op}
use Rattle.si_model.specs.declared.operations.Op.TheVariants.{Read, Write}
use Rattle.si_model.specs.declared.operations.TheConstants.{MOST_OPS}
use Rattle.si_model.specs.declared.numbers.TxnId.{TxnId}
use Rattle.si_model.specs.declared.numbers.Value.{Value}
use Rattle.si_model.specs.declared.transactions.Outcome.{Outcome}
use Rattle.si_model.specs.declared.transactions.Outcome.TheVariants as outcomes
use Rattle.si_model.specs.declared.transactions.Status.{Status}
use Rattle.si_model.specs.declared.transactions.Status.TheVariants.{Committed, Aborted, InDoubt}
use Rattle.si_model.specs.declared.transactions.Txn.{Txn}
use Rattle.si_text.specs.Conditions.{IsOf, op_value}
use Rattle.si_text.specs.Laws.{WrittenEditsReadBack}
use Rattle.si_text.specs.Lines.{◌>>=◌, or_fault, value_of, list_of, number_at, text_at, status_named, status_at, op_named, op_at, ops_from, ops_in, number_in, key_in, arrival_of, resolution_of, withdrawal_of, set_up_of, edit_named, object_edit, edit_of}
use Rattle.si_text.specs.Telling.{op_values, TellsStatus, Tells, KeepsLimits}
use Rattle.si_text.specs.declared.faults.Field.TheVariants as fields
use Rattle.si_text.specs.declared.faults.LineFault.{LineFault}
use Rattle.si_text.specs.declared.faults.LineFault.TheVariants.{TooLong, NotJson, NotObject, BadKind, BadField, TooManyOps, BadOp}
use Rattle.si_text.specs.declared.read_edits.TheConstants.{MOST_LINE_BYTES}
use Rattle.si_text.proofs.StepwiseLines.{key_there}

-- a step goes on with what is there
follow : {A B : Type 0} (P : Result B LineFault → Type 0) (fault : LineFault) (o : Option A) (x : A) (next : A → Result B LineFault) → o ≡ Some x → P (next x) → P (or_fault fault o >>= next)
follow P fault o x next e p = subst (λ v. P (or_fault fault v >>= next)) (sym e) p

-- ---- operations

op_back : (index : ℕ) (op : Op) → IsKeyText (key_of op) → op_at index (op_value op) ≡ Ok op
unfolding op_at op_named
op_back index (Read key None) fits = follow (λ r. r ≡ Ok (Read key None)) (BadOp index) (key_in (string key)) key (λ k. Ok (Read k None)) (key_there key fits) refl
op_back index (Read key (Some read)) fits = follow (λ r. r ≡ Ok (Read key (Some read))) (BadOp index) (key_in (string key)) key (λ k. Ok (Read k (Some read))) (key_there key fits) refl
op_back index (Write key value) fits = follow (λ r. r ≡ Ok (Write key value)) (BadOp index) (key_in (string key)) key (λ k. Ok (Write k value)) (key_there key fits) refl

abbrev Fit : List Op → Type 0
Fit ops = All (λ op. IsKeyText (key_of op)) ops

first_fits : (op : Op) (ops : List Op) → Fit (op ∷ ops) → IsKeyText (key_of op)
first_fits op ops fits = fits 0 op (omega arith)

others_fit : (op : Op) (ops : List Op) → Fit (op ∷ ops) → Fit ops
others_fit op ops fits = λ k d less. fits (suc k) d (omega (arith, less))

ops_back : (index : ℕ) (ops : List Op) → Fit ops → ops_from index (list_of (op_values ops)) ≡ Ok ops
ops_back index [] fits = refl
ops_back index (op ∷ ops) fits =
    ap (λ r. r >>= (λ first. ops_from (index + 1) (list_of (op_values ops)) >>= (λ others. Ok (first ∷ others)))) (op_back index op (first_fits op ops fits))
    ∙ ap (λ r. r >>= (λ others. Ok (op ∷ others))) (ops_back (index + 1) ops (others_fit op ops fits))

values_length : (ops : List Op) → length (list_of (op_values ops)) ≡ length ops
values_length [] = refl
values_length (op ∷ ops) = ap suc (values_length ops)

few : (n : ℕ) → n ≤ MOST_OPS → nat_lt MOST_OPS n ≡ false
few n h = grind (arith, nat_tests)

ops_read : (ops : List Op) → length ops ≤ MOST_OPS → Fit ops → ops_in (list_of (op_values ops)) ≡ Ok ops
unfolding ops_in
ops_read ops within fits =
    ap (λ b. cond b (Err TooManyOps) (ops_from 0 (list_of (op_values ops)))) (few (length (list_of (op_values ops))) (let size = values_length ops in omega (arith, size, within)))
    ∙ ops_back 0 ops fits

-- ---- members

status_follow : (P : Result Edit LineFault → Type 0) (d : Data) (status : Status) (next : Option Status → Result Edit LineFault) → TellsStatus d status → P (next (Some status)) → P (status_at d >>= next)
unfolding status_at text_at status_named number_at
status_follow P d (Committed commit) next h p =
    follow (λ r. P (r >>= next)) (BadField fields.Status) (option_and_then as_str (get (codes "status") d)) (codes "committed") (λ word. status_named word d) (ap (option_and_then as_str) h.0)
    (follow (λ r. P (r >>= next)) (BadField fields.Commit) (option_and_then number_in (get (codes "commit") d)) commit.0 _ (ap (option_and_then number_in) h.1) p)
status_follow P d Aborted next h p =
    follow (λ r. P (r >>= next)) (BadField fields.Status) (option_and_then as_str (get (codes "status") d)) (codes "aborted") (λ word. status_named word d) (ap (option_and_then as_str) h) p
status_follow P d InDoubt next h p =
    follow (λ r. P (r >>= next)) (BadField fields.Status) (option_and_then as_str (get (codes "status") d)) (codes "indoubt") (λ word. status_named word d) (ap (option_and_then as_str) h) p

arrival_back : (d : Data) (txn : Txn) → KeepsLimits (Arrive txn) → Tells d (Arrive txn) → arrival_of d ≡ Ok (Arrive txn)
unfolding arrival_of number_at
arrival_back d txn keeps h =
    let P : Result Edit LineFault → Type 0 = λ r. r ≡ Ok (Arrive txn) in
    follow P (BadField fields.Id) (option_and_then number_in (get (codes "id") d)) txn.id.0 _ (ap (option_and_then number_in) h.1)
    (follow P (BadField fields.Start) (option_and_then number_in (get (codes "start") d)) txn.start.0 _ (ap (option_and_then number_in) h.2)
    (status_follow P d txn.status _ h.3
    (follow P (BadField fields.Ops) (option_and_then as_array (get (codes "ops") d)) (op_values txn.ops) _ (ap (option_and_then as_array) h.4)
    (ap (λ r. r >>= (λ ops. Ok (Arrive (record { id = txn.id; start = txn.start; status = txn.status; ops = ops })))) (ops_read txn.ops keeps.0 keeps.1)))))

resolution_back : (d : Data) (id : TxnId) (outcome : Outcome) → Tells d (Resolve id outcome) → resolution_of d ≡ Ok (Resolve id outcome)
unfolding resolution_of number_at
resolution_back d id (outcomes.Committed commit) h =
    let P : Result Edit LineFault → Type 0 = λ r. r ≡ Ok (Resolve id (outcomes.Committed commit)) in
    follow P (BadField fields.Id) (option_and_then number_in (get (codes "id") d)) id.0 _ (ap (option_and_then number_in) h.1) (status_follow P d (Committed commit) _ h.2 refl)
resolution_back d id outcomes.Aborted h =
    let P : Result Edit LineFault → Type 0 = λ r. r ≡ Ok (Resolve id outcomes.Aborted) in
    follow P (BadField fields.Id) (option_and_then number_in (get (codes "id") d)) id.0 _ (ap (option_and_then number_in) h.1) (status_follow P d Aborted _ h.2 refl)

withdrawal_back : (d : Data) (id : TxnId) → Tells d (Withdraw id) → withdrawal_of d ≡ Ok (Withdraw id)
unfolding withdrawal_of number_at
withdrawal_back d id h =
    let P : Result Edit LineFault → Type 0 = λ r. r ≡ Ok (Withdraw id) in
    follow P (BadField fields.Id) (option_and_then number_in (get (codes "id") d)) id.0 _ (ap (option_and_then number_in) h.1) refl

set_up_back : (d : Data) (key : List ℕ) (value : Value) → IsKeyText key → Tells d (SetUp key value) → set_up_of d ≡ Ok (SetUp key value)
unfolding set_up_of number_at
set_up_back d key value fits h =
    let P : Result Edit LineFault → Type 0 = λ r. r ≡ Ok (SetUp key value) in
    follow P (BadField fields.Key) (option_and_then key_in (get (codes "key") d)) key _ (ap (option_and_then key_in) h.1 ∙ key_there key fits)
    (follow P (BadField fields.Value) (option_and_then number_in (get (codes "value") d)) value.0 _ (ap (option_and_then number_in) h.2) refl)

-- ---- the object and the line

kind_back : (d : Data) (word : List ℕ) (edit : Edit) → IsOf d word → edit_named word d ≡ Ok edit → object_edit d ≡ Ok edit
unfolding object_edit
kind_back d word edit of named = follow (λ r. r ≡ Ok edit) BadKind (option_and_then as_str (get (codes "do") d)) word (λ w. edit_named w d) (ap (option_and_then as_str) of) named

object_back : (d : Data) (edit : Edit) → KeepsLimits edit → Tells d edit → object_edit d ≡ Ok edit
unfolding edit_named
object_back d (Arrive txn) keeps h = kind_back d (codes "txn") (Arrive txn) h.0 (arrival_back d txn keeps h)
object_back d (Resolve id outcome) keeps h = kind_back d (codes "resolve") (Resolve id outcome) h.0 (resolution_back d id outcome h)
object_back d (Withdraw id) keeps h = kind_back d (codes "withdraw") (Withdraw id) h.0 (withdrawal_back d id h)
object_back d (SetUp key value) keeps h = kind_back d (codes "setup") (SetUp key value) h.0 (set_up_back d key value keeps h)

is_object : (d x : Data) (name : List ℕ) → get name d ≡ Some x → is_some (as_object d) ≡ true
is_object null x name e = cc
is_object (boolean b) x name e = cc
is_object (number n) x name e = cc
is_object (string s) x name e = cc
is_object (array ds) x name e = cc
is_object (object ms) x name e = refl

told_object : (d : Data) (edit : Edit) → Tells d edit → is_some (as_object d) ≡ true
told_object d (Arrive txn) h = is_object d _ (codes "do") h.0
told_object d (Resolve id outcome) h = is_object d _ (codes "do") h.0
told_object d (Withdraw id) h = is_object d _ (codes "do") h.0
told_object d (SetUp key value) h = is_object d _ (codes "do") h.0

short : (n : ℕ) → n ≤ MOST_LINE_BYTES → nat_lt MOST_LINE_BYTES n ≡ false
short n h = grind (arith, nat_tests)

if_object : Data → Result Edit LineFault
if_object v = cond (is_some (as_object v)) (object_edit v) (Err NotObject)

pub read_back : WrittenEditsReadBack
unfolding edit_of if_object
read_back line d edit within is keeps h =
    ap (λ b. cond b (Err TooLong) (or_fault NotJson (value_of line) >>= if_object)) (short (length line) within)
    ∙ follow (λ r. r ≡ Ok edit) NotJson (value_of line) d if_object is
    (ap (λ b. cond b (object_edit d) (Err NotObject)) (told_object d edit h) ∙ object_back d edit keeps h)
