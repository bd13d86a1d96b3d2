-- An item of an array is read as the operation that it is, and refused where it is none.
use Rattle.std.proofs.Common.{◌≡◌, ◌<◌, ◌+◌, ◌==◌, ℕ, zero, suc, List, [], ◌∷◌, length, codes, Bool, true, false, cond, Option, Some, None, option_and_then, option_map, Result, Ok, Err, refl, sym, ap, subst, ◌∙◌, arith}
use Rattle.std.specs.Str.{bytes_eq}
use Rattle.std.proofs.lemmas.Bool.{eqb-true}
use Rattle.std.proofs.lemmas.Slice.Eq.{bytes_eq-Decides}
use Rattle.serde_json.specs.Data.{unsigned, negative, float, Data, null, boolean, number, string, array, object, Items, no_items, item}
use Rattle.serde_json.specs.Find.{at, get_item, as_str}
use Rattle.si_model.specs.KeyTexts.{IsKeyText}
use Rattle.si_model.specs.Operations.{key_of}
use Rattle.si_model.specs.declared.operations.Op.{Op}
use Rattle.si_model.specs.declared.operations.Op.TheVariants.{Read, Write}
use Rattle.si_text.specs.Conditions.{triple, op_value, IsOp, IsNoOp, IsFirstNoOp}
use Rattle.si_text.specs.Lines.{◌>>=◌, or_fault, list_of, triple_in, key_in, read_in, written_in, op_named, op_at, ops_from}
use Rattle.si_text.specs.declared.faults.LineFault.{LineFault}
use Rattle.si_text.specs.declared.faults.LineFault.TheVariants.{BadOp}
use Rattle.si_text.proofs.StepwiseLines.{step, last, choice, some_same, none_some, text_back, key_back, no_key}

abbrev three : Data → Data → Data → Data
three a b c = array (item a (item b (item c no_items)))

picked_three : (b : Bool) (l m : List Data) → cond b (Some l) None ≡ Some m → b ≡ true
picked_three true l m e = refl
picked_three false l m e = cc

three_of : (ds : Items) → (length (list_of ds) == 3) ≡ true → (a : Data) × (b : Data) × (c : Data) × (array ds ≡ three a b c)
three_of no_items e = cc
three_of (item a no_items) e = cc
three_of (item a (item b no_items)) e = cc
three_of (item a (item b (item c no_items))) e = (a, b, c, refl)
three_of (item a (item b (item c (item x ds)))) e = let size = eqb-true (length (list_of (item a (item b (item c (item x ds)))))) 3 e in absurd (omega (arith, size))

triple_back : (d : Data) (l : List Data) → triple_in d ≡ Some l → (a : Data) × (b : Data) × (c : Data) × (d ≡ three a b c)
triple_back null l e = cc
triple_back (boolean b) l e = cc
triple_back (number n) l e = cc
triple_back (string s) l e = cc
triple_back (array ds) l e = three_of ds (picked_three (length (list_of ds) == 3) (list_of ds) l e)
triple_back (object ms) l e = cc

-- ---- what an operation has

word_of : Op → List ℕ
word_of (Read key read) = codes "r"
word_of (Write key value) = codes "w"

value_in : Op → Data
value_in (Read key None) = null
value_in (Read key (Some read)) = number (unsigned read.0)
value_in (Write key value) = number (unsigned value.0)

parts : (op : Op) → op_value op ≡ triple (word_of op) (key_of op) (value_in op)
unfolding word_of value_in
parts (Read key None) = refl
parts (Read key (Some read)) = refl
parts (Write key value) = refl

named : (op : Op) → op_named (word_of op) (key_of op) (value_in op) ≡ Some op
unfolding word_of value_in op_named
named (Read key None) = refl
named (Read key (Some read)) = refl
named (Write key value) = refl

-- ---- what was read is the operation

read_back : (key : List ℕ) (c : Data) (op : Op) → option_map (Read key) (read_in c) ≡ Some op → (key_of op ≡ key) × (triple (codes "r") key c ≡ op_value op)
read_back key null op e = subst (λ o. (key_of o ≡ key) × (triple (codes "r") key null ≡ op_value o)) (some_same (Read key None) op e) (refl, refl)
read_back key (boolean b) op e = cc
read_back key (number (unsigned n)) op e =
    subst (λ o. (key_of o ≡ key) × (triple (codes "r") key (number (unsigned n)) ≡ op_value o)) (some_same (Read key (Some (record { 0 = n }))) op e) (refl, refl)
read_back key (number (negative z)) op e = cc
read_back key (number (float x)) op e = cc
read_back key (string s) op e = cc
read_back key (array ds) op e = cc
read_back key (object ms) op e = cc

write_back : (key : List ℕ) (c : Data) (op : Op) → option_map (Write key) (written_in c) ≡ Some op → (key_of op ≡ key) × (triple (codes "w") key c ≡ op_value op)
write_back key null op e = cc
write_back key (boolean b) op e = cc
write_back key (number (unsigned n)) op e =
    subst (λ o. (key_of o ≡ key) × (triple (codes "w") key (number (unsigned n)) ≡ op_value o)) (some_same (Write key (record { 0 = n })) op e) (refl, refl)
write_back key (number (negative z)) op e = cc
write_back key (number (float x)) op e = cc
write_back key (string s) op e = cc
write_back key (array ds) op e = cc
write_back key (object ms) op e = cc

named_back : (word key : List ℕ) (c : Data) (op : Op) → op_named word key c ≡ Some op → (key_of op ≡ key) × (triple word key c ≡ op_value op)
unfolding op_named
named_back word key c op =
    let P : Option Op → Type 0 = λ o. o ≡ Some op → (key_of op ≡ key) × (triple word key c ≡ op_value op) in
    choice P (bytes_eq word (codes "r")) _ _
    (λ is e. let back = read_back key c op e in (back.0, ap (λ w. triple w key c) ((bytes_eq-Decides word (codes "r")).0 is) ∙ back.1))
    (λ isn. choice P (bytes_eq word (codes "w")) _ _
    (λ is e. let back = write_back key c op e in (back.0, ap (λ w. triple w key c) ((bytes_eq-Decides word (codes "w")).0 is) ∙ back.1))
    (λ other e. cc))

-- ---- one item

-- what the item of that number is read as is right
unfoldable pub OpRight : ℕ → Data → Result Op LineFault → Type 0
OpRight index d (Ok op) = IsOp d op
OpRight index d (Err fault) = (fault ≡ BadOp index) × IsNoOp d

op_rest : ℕ → Data → Result Op LineFault
op_rest index d = do
  word ← or_fault (BadOp index) (option_and_then as_str (at 0 d))
  key ← or_fault (BadOp index) (option_and_then key_in (at 1 d))
  value ← or_fault (BadOp index) (at 2 d)
  or_fault (BadOp index) (op_named word key value)

no_word : (d : Data) → option_and_then as_str (at 0 d) ≡ None → IsNoOp d
no_word d none op h = none_some (option_and_then as_str (at 0 d)) (word_of op) none (ap (λ v. option_and_then as_str (at 0 v)) (h.1 ∙ parts op))

no_key_at : (d : Data) → option_and_then key_in (at 1 d) ≡ None → IsNoOp d
no_key_at d none op h = no_key (at 1 d) (key_of op) h.0 none (ap (at 1) (h.1 ∙ parts op))

no_triple : (d : Data) → triple_in d ≡ None → IsNoOp d
no_triple d none op h = none_some (triple_in d) (string (word_of op) ∷ string (key_of op) ∷ value_in op ∷ []) none (ap triple_in (h.1 ∙ parts op))

no_name : (a b c : Data) (word key : List ℕ) → Some a ≡ Some (string word) → Some b ≡ Some (string key) → op_named word key c ≡ None → IsNoOp (three a b c)
no_name a b c word key word_is key_is none op h =
    let e = h.1 ∙ parts op in
    let same_word : word ≡ word_of op = some_same word (word_of op) (sym (ap (option_and_then as_str) word_is) ∙ ap (λ v. option_and_then as_str (at 0 v)) e) in
    let same_key : key ≡ key_of op = some_same key (key_of op) (sym (ap (option_and_then as_str) key_is) ∙ ap (λ v. option_and_then as_str (at 1 v)) e) in
    let same_value : c ≡ value_in op = some_same c (value_in op) (ap (at 2) e) in
    none_some (op_named word key c) op none
    (ap (λ w. op_named w key c) same_word ∙ ap (λ k. op_named (word_of op) k c) same_key ∙ ap (op_named (word_of op) (key_of op)) same_value ∙ named op)

is_op : (a b c : Data) (word key : List ℕ) (op : Op) → Some a ≡ Some (string word) → Some b ≡ Some (string key) → IsKeyText key → op_named word key c ≡ Some op → IsOp (three a b c) op
is_op a b c word key op word_is key_is fits e =
    let back = named_back word key c op e in (
      subst IsKeyText (sym back.0) fits,
      ap (λ v. three v b c) (some_same a (string word) word_is) ∙ ap (λ v. three (string word) v c) (some_same b (string key) key_is) ∙ back.1,
    )

rest_right : (index : ℕ) (a b c : Data) → OpRight index (three a b c) (op_rest index (three a b c))
unfolding op_rest OpRight
rest_right index a b c =
    step (OpRight index (three a b c)) (BadOp index) (option_and_then as_str (Some a)) _ (λ none. (refl, no_word (three a b c) none)) (λ word word_is.
    step (OpRight index (three a b c)) (BadOp index) (option_and_then key_in (Some b)) _ (λ none. (refl, no_key_at (three a b c) none)) (λ key key_is.
    let at_key = key_back (Some b) key key_is in
    let at_word = text_back (Some a) word word_is in
    last (OpRight index (three a b c)) (BadOp index) (op_named word key c)
    (λ none. (refl, no_name a b c word key at_word at_key.0 none))
    (λ op e. is_op a b c word key op at_word at_key.0 at_key.1 e)))

pub op_right : (index : ℕ) (d : Data) → OpRight index d (op_at index d)
unfolding op_at op_rest OpRight
op_right index d =
    step (OpRight index d) (BadOp index) (triple_in d) (λ l. op_rest index d) (λ none. (refl, no_triple d none)) (λ l is.
    let back = triple_back d l is in
    subst (λ v. OpRight index v (op_rest index v)) (sym back.3) (rest_right index back.0 back.1 back.2))

-- ---- the items of an array

-- what the items from that number on are read as is right
unfoldable pub OpsRight : ℕ → Items → Result (List Op) LineFault → Type 0
OpsRight index ds (Ok ops) = (other : ℕ) (d : Data) → get_item other ds ≡ Some d → (op : Op) × IsOp d op
OpsRight index ds (Err fault) = (i : ℕ) × (fault ≡ BadOp (index + i)) × IsFirstNoOp ds i

all_before : (d : Data) (ds : Items) (op : Op) → IsOp d op → (i : ℕ) → ((other : ℕ) (x : Data) → other < i → get_item other ds ≡ Some x → (p : Op) × IsOp x p)
    → (other : ℕ) (x : Data) → other < suc i → get_item other (item d ds) ≡ Some x → (p : Op) × IsOp x p
all_before d ds op is i before zero x less e = (op, subst (λ v. IsOp v op) (some_same d x e) is)
all_before d ds op is i before (suc other) x less e = before other x (omega (arith, less)) e

all_of : (d : Data) (ds : Items) (op : Op) → IsOp d op → ((other : ℕ) (x : Data) → get_item other ds ≡ Some x → (p : Op) × IsOp x p)
    → (other : ℕ) (x : Data) → get_item other (item d ds) ≡ Some x → (p : Op) × IsOp x p
all_of d ds op is all zero x e = (op, subst (λ v. IsOp v op) (some_same d x e) is)
all_of d ds op is all (suc other) x e = all other x e

one_more : (index : ℕ) (d : Data) (ds : Items) (r : Result Op LineFault) (s : Result (List Op) LineFault) → OpRight index d r → OpsRight (index + 1) ds s
    → OpsRight index (item d ds) (r >>= (λ first. s >>= (λ others. Ok (first ∷ others))))
unfolding OpRight OpsRight
one_more index d ds (Err fault) s h k =
    let same : index ≡ index + 0 = omega arith in
    (0, h.0 ∙ ap (λ n. BadOp n) same, ((d, refl, h.1), λ other x less e. absurd (omega (arith, less))))
one_more index d ds (Ok op) (Err fault) h k =
    let same : (index + 1) + k.0 ≡ index + suc k.0 = omega arith in
    (suc k.0, k.1 ∙ ap (λ n. BadOp n) same, (k.2.0, all_before d ds op h k.0 k.2.1))
one_more index d ds (Ok op) (Ok ops) h k = all_of d ds op h k

pub ops_right : (index : ℕ) (ds : Items) → OpsRight index ds (ops_from index (list_of ds))
unfolding OpsRight
ops_right index no_items = λ other d e. cc
ops_right index (item d ds) = one_more index d ds (op_at index d) (ops_from (index + 1) (list_of ds)) (op_right index d) (ops_right (index + 1) ds)
