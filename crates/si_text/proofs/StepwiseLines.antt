-- Lemmas on a line that is read step by step, and on what a step found.
use Rattle.std.proofs.Common.{◌≡◌, ◌≤◌, ℕ, List, length, Bool, true, false, cond, ◌&&◌, nat_le, Option, Some, None, option_and_then, unwrap_or, Result, Ok, Err, refl, ap, subst, ◌∙◌, arith}
use Rattle.std.proofs.lemmas.Bool.Decides.{nat_tests}
use Rattle.serde_json.specs.Data.{unsigned, negative, float, Data, null, boolean, number, string, array, object, Items}
use Rattle.serde_json.specs.Find.{as_str, as_array}
use Rattle.si_model.specs.KeyTexts.{IsKeyText}
use Rattle.si_text.specs.Lines.{◌>>=◌, or_fault, number_in, key_in}
use Rattle.si_text.specs.declared.faults.LineFault.{LineFault}

-- a step goes on with what is there, or ends with its fault
pub step : {A B : Type 0} (P : Result B LineFault → Type 0) (fault : LineFault) (o : Option A) (next : A → Result B LineFault)
    → (o ≡ None → P (Err fault)) → ((x : A) → o ≡ Some x → P (next x)) → P (or_fault fault o >>= next)
step P fault None next none some = none refl
step P fault (Some x) next none some = some x refl

-- a last step
pub last : {B : Type 0} (P : Result B LineFault → Type 0) (fault : LineFault) (o : Option B) → (o ≡ None → P (Err fault)) → ((x : B) → o ≡ Some x → P (Ok x)) → P (or_fault fault o)
last P fault None none some = none refl
last P fault (Some x) none some = some x refl

pub choice : {A : Type 0} (P : A → Type 0) (b : Bool) (x y : A) → (b ≡ true → P x) → (b ≡ false → P y) → P (cond b x y)
choice P true x y first second = first refl
choice P false x y first second = second refl

pub some_same : {A : Type 0} (x y : A) → Some x ≡ Some y → x ≡ y
some_same x y e = ap (λ o. unwrap_or o x) e

pub none_some : {A : Type 0} (o : Option A) (x : A) → o ≡ None → o ≡ Some x → ⊥
none_some o x none some = cc

-- ---- numbers

pub number_back : (o : Option Data) (n : ℕ) → option_and_then number_in o ≡ Some n → o ≡ Some (number (unsigned n))
number_back None n e = cc
number_back (Some null) n e = cc
number_back (Some (boolean b)) n e = cc
number_back (Some (number (unsigned m))) n e = ap (λ v. Some (number (unsigned v))) (some_same m n e)
number_back (Some (number (negative z))) n e = cc
number_back (Some (number (float x))) n e = cc
number_back (Some (string s)) n e = cc
number_back (Some (array ds)) n e = cc
number_back (Some (object ms)) n e = cc

pub no_number : (o : Option Data) → option_and_then number_in o ≡ None → (n : ℕ) × (o ≡ Some (number (unsigned n))) → ⊥
no_number o none h = none_some (option_and_then number_in o) h.0 none (ap (option_and_then number_in) h.1)

-- ---- texts

pub text_back : (o : Option Data) (s : List ℕ) → option_and_then as_str o ≡ Some s → o ≡ Some (string s)
text_back None s e = cc
text_back (Some null) s e = cc
text_back (Some (boolean b)) s e = cc
text_back (Some (number n)) s e = cc
text_back (Some (string t)) s e = ap (λ v. Some (string v)) (some_same t s e)
text_back (Some (array ds)) s e = cc
text_back (Some (object ms)) s e = cc

pub no_text : (o : Option Data) → option_and_then as_str o ≡ None → (s : List ℕ) × (o ≡ Some (string s)) → ⊥
no_text o none h = none_some (option_and_then as_str o) h.0 none (ap (option_and_then as_str) h.1)

-- ---- arrays

pub array_back : (o : Option Data) (ds : Items) → option_and_then as_array o ≡ Some ds → o ≡ Some (array ds)
array_back None ds e = cc
array_back (Some null) ds e = cc
array_back (Some (boolean b)) ds e = cc
array_back (Some (number n)) ds e = cc
array_back (Some (string t)) ds e = cc
array_back (Some (array es)) ds e = ap (λ v. Some (array v)) (some_same es ds e)
array_back (Some (object ms)) ds e = cc

pub no_array : (o : Option Data) → option_and_then as_array o ≡ None → (ds : Items) × (o ≡ Some (array ds)) → ⊥
no_array o none h = none_some (option_and_then as_array o) h.0 none (ap (option_and_then as_array) h.1)

-- ---- keys

picked : (b : Bool) (s key : List ℕ) → cond b (Some s) None ≡ Some key → (b ≡ true) × (s ≡ key)
picked true s key e = (refl, some_same s key e)
picked false s key e = cc

fits : (n : ℕ) → (nat_le 1 n && nat_le n 128) ≡ true → (1 ≤ n) × (n ≤ 128)
fits n e = grind (arith, nat_tests)

fitting : (n : ℕ) → 1 ≤ n → n ≤ 128 → (nat_le 1 n && nat_le n 128) ≡ true
fitting n least most = grind (arith, nat_tests)

is_key : (s key : List ℕ) → (nat_le 1 (length s) && nat_le (length s) 128) ≡ true → s ≡ key → IsKeyText key
is_key s key e same = subst IsKeyText same (fits (length s) e)

pub key_back : (o : Option Data) (key : List ℕ) → option_and_then key_in o ≡ Some key → (o ≡ Some (string key)) × IsKeyText key
key_back None key e = cc
key_back (Some null) key e = cc
key_back (Some (boolean b)) key e = cc
key_back (Some (number n)) key e = cc
key_back (Some (string s)) key e =
    let p = picked (nat_le 1 (length s) && nat_le (length s) 128) s key e in
    (ap (λ v. Some (string v)) p.1, is_key s key p.0 p.1)
key_back (Some (array ds)) key e = cc
key_back (Some (object ms)) key e = cc

pub key_there : (key : List ℕ) → IsKeyText key → key_in (string key) ≡ Some key
key_there key h = ap (λ b. cond b (Some key) None) (fitting (length key) h.0 h.1)

pub no_key : (o : Option Data) (key : List ℕ) → IsKeyText key → option_and_then key_in o ≡ None → o ≡ Some (string key) → ⊥
no_key o key h none is = none_some (option_and_then key_in o) key none (ap (option_and_then key_in) is ∙ key_there key h)
