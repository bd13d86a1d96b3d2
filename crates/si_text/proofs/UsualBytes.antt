-- Lemmas on what is taken from the bytes of a line.
use Rattle.std.proofs.Common.{◌≡◌, ◌≤◌, ◌<◌, ◌+◌, ◌-◌, ◌*◌, ◌^◌, ◌==◌, inl, inr, ℕ, zero, suc, List, [], ◌∷◌, ◌++◌, length, take, drop, get_or, set, decimal, Bool, true, false, cond, Some, refl, sym, ap, ap₂, ◌∙◌, subst, arith, append_assoc}
use Rattle.std.specs.Str.{IsUtf8}
use Rattle.std.specs.Str.Parse.{AllDigits, digits_value}
use Rattle.std.proofs.lemmas.Bool.{ne_eqb, le-ltb, true≢false}
use Rattle.std.proofs.lemmas.Grind.{fold-append}
use Rattle.std.proofs.lemmas.List.{take_more, take_more_set, length-take, length-take-le, get_or-take, take_all}
use native.Mathlib.Nat.{pow-le-pow_right}
use Rattle.std.proofs.lemmas.Int.Digits.{digits_value-lt, digits_value_push}
use Rattle.std.proofs.lemmas.Str.{digit_value_digit, IsUtf8-from_ascii}
use Rattle.std.proofs.lemmas.Str.Parse.{numerals_by_value, tells_digits}
use Rattle.std.proofs.lemmas.Fmt.{decimal-digits_value}
use Rattle.json.specs.Token as tokens
use Rattle.json.specs.Text.{content, plain, prepend}
use Rattle.json.specs.Word.{is_operator, is_space}
use Rattle.json.specs.Lex.{Lexeme, Mode, token, operator, space, other, class, string_token, between, in_string, lex_byte, lex, Place, fresh, after_value, after_comma, after_key, may_begin, begins_colon, punctuate}
use Rattle.json.proofs.Printed.Numbers.{lex-number}
use Rattle.json.proofs.Printed.Decimals.{IsNumber-decimal}
use Rattle.si_model.specs.KeyTexts.{shard_hash, shard_hash_with}
use Rattle.si_text.specs.UsualBytes.{IsEnd, EndsValue, TakesToken, TakesText, TakesNumber, AreDigits, IsPlain, ArePlain}

-- ---- digits

digits_push : (ds : List ℕ) (c : ℕ) → AllDigits 10 ds → 48 ≤ c → c ≤ 57 → AllDigits 10 (ds ++ c ∷ [])
digits_push [] c all low high = (omega (arith, digit_value_digit c (low, high)), tt)
digits_push (d ∷ ds) c all low high = (all.0, digits_push ds c all.1 low high)

pub digits_more : (bytes : List ℕ) (count number digit : ℕ) → digit ≡ get_or bytes count 0 - 48 → count < length bytes → 48 ≤ get_or bytes count 0 → get_or bytes count 0 ≤ 57 → AreDigits number (take count bytes)
    → AreDigits (number * 10 + digit) (take (count + 1) bytes)
digits_more bytes count number digit is within low high h =
    let c = get_or bytes count 0 in
    let value : number * 10 + digit ≡ digits_value 10 (take count bytes ++ c ∷ []) = omega (arith, h.1, digits_value_push 10 (take count bytes) c, digit_value_digit c (low, high)) in
    subst (AreDigits (number * 10 + digit)) (sym (take_more bytes count 0 within)) (digits_push (take count bytes) c h.0 low high, value)

pub digits_below : (number : ℕ) (bytes : List ℕ) (count most : ℕ) → AreDigits number (take count bytes) → count ≤ most → number < 10 ^ most
digits_below number bytes count most h few =
    let short : length (take count bytes) ≤ most = omega (arith, length-take count bytes) in
    omega (arith, h.1, digits_value-lt 10 (take count bytes) h.0, pow-le-pow_right {n = 10} (omega arith) short)

-- ---- the end of a value

ends_operator : (end : ℕ) → IsEnd end → is_operator end ≡ true
ends_operator end (inl e) = rw e
ends_operator end (inr (inl e)) = rw e
ends_operator end (inr (inr e)) = rw e

no_colon : (end : ℕ) (others : List ℕ) → IsEnd end → begins_colon (lex between (end ∷ others)) ≡ false
unfolding lex
no_colon end others (inl e) = rw e
no_colon end others (inr (inl e)) = rw e
no_colon end others (inr (inr e)) = rw e

pub no_colon_begins : (bytes : List ℕ) → EndsValue bytes → begins_colon (lex between bytes) ≡ false
no_colon_begins bytes h = ap (λ l. begins_colon (lex between l)) h.is ∙ no_colon h.end h.others h.ends

operator_class : (x : ℕ) → is_operator x ≡ true → class x ≡ operator
operator_class x h = rw (ne_eqb x 34 (λ e. true≢false (sym h ∙ ap is_operator e)), ne_eqb x 92 (λ e. true≢false (sym h ∙ ap is_operator e)), h)

pub space_passed : (end : ℕ) (new : List ℕ) → is_operator end ≡ true → lex between (end ∷ 32 ∷ new) ≡ lex between (end ∷ new)
unfolding lex
space_passed end new h = rw (operator_class end h)

-- ---- tokens where a value may begin

number_placed : (text : List ℕ) (ls : List Lexeme) (p : Place) → may_begin p ≡ true → punctuate p (token (tokens.number text) ∷ ls) ≡ tokens.number text ∷ punctuate after_value ls
unfolding punctuate
number_placed text ls fresh h = refl
number_placed text ls after_value h = absurd (true≢false (sym h))
number_placed text ls after_comma h = refl
number_placed text ls after_key h = absurd (true≢false (sym h))

string_placed : (text : List ℕ) (ls : List Lexeme) (p : Place) → begins_colon ls ≡ false → may_begin p ≡ true → punctuate p (token (tokens.string text) ∷ ls) ≡ tokens.string text ∷ punctuate after_value ls
unfolding punctuate
string_placed text ls fresh e h = rw e
string_placed text ls after_value e h = absurd (true≢false (sym h))
string_placed text ls after_comma e h = rw e
string_placed text ls after_key e h = absurd (true≢false (sym h))

pub string_taken : (text old new : List ℕ) → lex between old ≡ token (tokens.string text) ∷ lex between new → EndsValue new → TakesToken (tokens.string text) old new
string_taken text old new lexed ends p may = ap (punctuate p) lexed ∙ string_placed text (lex between new) p (no_colon_begins new ends) may

-- ---- what the lexer makes of a number

decimal_lexed : (number : ℕ) (old new : List ℕ) → number < 2 ^ 64 → old ≡ decimal number ++ new → EndsValue new → lex between old ≡ token (tokens.number (decimal number)) ∷ lex between new
decimal_lexed number old new fits is ends =
    let h = ends_operator ends.end ends.ends in
    ap (lex between) (is ∙ ap (λ l. decimal number ++ l) ends.is) ∙ lex-number (decimal number) (ends.end ∷ ends.others) (IsNumber-decimal number fits) (rw h)
    ∙ ap (λ l. token (tokens.number (decimal number)) ∷ lex between l) (sym ends.is)

one_number_taken : (number count : ℕ) (old new : List ℕ) → AreDigits number (take count old) → 0 < count → count ≤ 19 → count ≤ length old → (get_or old 0 0 ≡ 48 → count ≡ 1) → old ≡ take count old ++ new → EndsValue new
    → TakesNumber number old new
one_number_taken number count old new digits some few within lead cut ends =
    let size : length (take count old) ≡ count = length-take-le count old within in
    let fits : number < 2 ^ 64 = omega (arith, digits_below number old count 19 digits few) in
    let first : get_or (take count old) 0 0 ≡ get_or old 0 0 = get_or-take count old 0 0 some in
    let text : decimal number ≡ take count old =
    ap decimal digits.1 ∙ decimal-digits_value (numerals_by_value _ tells_digits) (take count old) digits.0 (omega arith) (λ e. omega (arith, lead (sym first ∙ e))) (omega (arith, digits.1)) in
    let lexed = decimal_lexed number old new fits (cut ∙ ap (λ l. l ++ new) (sym text)) ends in
    (fits, λ p may. ap (punctuate p) lexed ∙ number_placed (decimal number) (lex between new) p may)

pub number_taken : (number count : ℕ) (bytes old new : List ℕ) → bytes ≡ old → AreDigits number (take count bytes) → 0 < count → count ≤ 19 → count ≤ length bytes → (get_or bytes 0 0 ≡ 48 → count ≡ 1)
    → old ≡ take count old ++ new → EndsValue new → TakesNumber number old new
number_taken number count bytes old new same digits some few within lead cut ends =
    subst (λ l. TakesNumber number l new) same (one_number_taken number count bytes new digits some few within lead (subst (λ l. l ≡ take count l ++ new) (sym same) cut) ends)

-- ---- what it makes of a text

stays_inside : (o s : Bool) (x : ℕ) (r : List ℕ) (k : Mode → List Lexeme) → lex_byte in_string (cond o operator (cond s space other)) x r k ≡ k in_string
stays_inside true s x r k = refl
stays_inside false true x r k = refl
stays_inside false false x r k = refl

plain_lexed : (text rest : List ℕ) → ArePlain text → lex in_string (text ++ 34 ∷ rest) ≡ lex between rest
unfolding lex
plain_lexed [] rest h = refl
plain_lexed (x ∷ xs) rest h =
    let q : (x == 34) ≡ false = ne_eqb x 34 h.0.2 in
    let b : (x == 92) ≡ false = ne_eqb x 92 h.0.3 in
    rw (q, b) (stays_inside (is_operator x) (is_space x) x (xs ++ 34 ∷ rest) (λ m. lex m (xs ++ 34 ∷ rest))) ∙ plain_lexed xs rest h.1

plain_content : (text rest : List ℕ) → ArePlain text → content plain (text ++ 34 ∷ rest) ≡ Some text
unfolding content
plain_content [] rest h = refl
plain_content (x ∷ xs) rest h =
    let q : (x == 34) ≡ false = ne_eqb x 34 h.0.2 in
    let b : (x == 92) ≡ false = ne_eqb x 92 h.0.3 in
    rw (q, b, le-ltb x 32 h.0.0) (ap (prepend (x ∷ [])) (plain_content xs rest h.1))

text_before : (text rest : List ℕ) → ArePlain text → lex between (34 ∷ (text ++ 34 ∷ rest)) ≡ token (tokens.string text) ∷ lex between rest
unfolding lex
text_before text rest h = ap₂ (λ o ls. token (string_token o) ∷ ls) (plain_content text rest h) (plain_lexed text rest h)

-- the bytes behind the first one, as the code cuts them out
abbrev pub behind_first : List ℕ → List ℕ
behind_first bytes = take (length bytes - 1) (drop 1 bytes)

with_first : (bytes : List ℕ) (x : ℕ) → 0 < length bytes → get_or bytes 0 0 ≡ x → bytes ≡ x ∷ behind_first bytes
with_first [] x some first = absurd (omega arith)
with_first (y ∷ ys) x some first =
    let rest : length (y ∷ ys) - 1 ≡ length ys = omega arith in
    ap₂ (λ a l. a ∷ l) first (sym (ap (λ n. take n ys) rest ∙ take_all (length ys) ys (omega arith)))

one_key_taken : (count : ℕ) (text new : List ℕ) → ArePlain (take count text) → count < length text → get_or text count 0 ≡ 34 → 34 ∷ text ≡ take (count + 2) (34 ∷ text) ++ new → TakesText (take count text) (34 ∷ text) new
one_key_taken count text new h within closes cut =
    let next : count + 2 ≡ suc (count + 1) = omega arith in
    let begin : take (count + 2) (34 ∷ text) ≡ 34 ∷ (take count text ++ 34 ∷ []) = ap (λ n. take n (34 ∷ text)) next ∙ ap (λ l. 34 ∷ l) (take_more text count 0 within ∙ ap (λ x. take count text ++ x ∷ []) closes) in
    let all : 34 ∷ text ≡ 34 ∷ (take count text ++ 34 ∷ new) = cut ∙ ap (λ l. l ++ new) begin ∙ ap (λ l. 34 ∷ l) (append_assoc (take count text) (34 ∷ []) new) in
    ap (lex between) all ∙ text_before (take count text) new h

pub key_taken : (count : ℕ) (key bytes old new : List ℕ) → let text = behind_first bytes in bytes ≡ old → key ≡ take count text → 0 < length bytes → get_or bytes 0 0 ≡ 34
    → ArePlain (take count text) → count < length text → get_or text count 0 ≡ 34 → old ≡ take (count + 2) old ++ new → TakesText key old new
key_taken count key bytes old new same is some first h within closes cut =
    let split = with_first bytes 34 some first in
    subst (λ k. TakesText k old new) (sym is) (subst (λ l. TakesText (take count (behind_first bytes)) l new) (sym split ∙ same)
    (one_key_taken count (behind_first bytes) new h within closes (subst (λ l. l ≡ take (count + 2) l ++ new) (sym same ∙ split) cut)))

-- ---- a key

plain_push : (xs : List ℕ) (x : ℕ) → ArePlain xs → IsPlain x → ArePlain (xs ++ x ∷ [])
plain_push [] x h last = (last, tt)
plain_push (y ∷ ys) x h last = (h.0, plain_push ys x h.1 last)

pub plain_more : (text : List ℕ) (count : ℕ) → count < length text → ArePlain (take count text) → IsPlain (get_or text count 0) → ArePlain (take (count + 1) text)
plain_more text count within h last = subst ArePlain (sym (take_more text count 0 within)) (plain_push (take count text) (get_or text count 0) h last)

pub copied_more : (xs text : List ℕ) (count : ℕ) → count < length xs → count < length text → take count xs ≡ take count text → take (count + 1) (set xs count (get_or text count 0)) ≡ take (count + 1) text
copied_more xs text count room within h = take_more_set xs count (get_or text count 0) room ∙ ap (λ l. l ++ get_or text count 0 ∷ []) h ∙ sym (take_more text count 0 within)

plain_ascii : (xs : List ℕ) → ArePlain xs → (i : ℕ) → get_or xs i 0 < 128
plain_ascii [] h i = omega arith
plain_ascii (x ∷ xs) h zero = omega (arith, h.0.1)
plain_ascii (x ∷ xs) h (suc i) = plain_ascii xs h.1 i

pub plain_utf8 : (xs : List ℕ) → ArePlain xs → IsUtf8 xs
plain_utf8 xs h = IsUtf8-from_ascii xs (plain_ascii xs h)

pub hash_none : shard_hash [] ≡ 0
unfolding shard_hash
hash_none = refl

hash_push : (xs : List ℕ) (x : ℕ) → shard_hash (xs ++ x ∷ []) ≡ shard_hash_with (shard_hash xs) x
unfolding shard_hash
hash_push xs x = fold-append shard_hash_with 0 xs (x ∷ [])

pub hash_more : (text : List ℕ) (count : ℕ) → count < length text → shard_hash (take (count + 1) text) ≡ shard_hash_with (shard_hash (take count text)) (get_or text count 0)
hash_more text count within = ap shard_hash (take_more text count 0 within) ∙ hash_push (take count text) (get_or text count 0)
