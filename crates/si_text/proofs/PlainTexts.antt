-- The JSON of a text of plain bytes is the text in quotes.
use Rattle.std.proofs.Common.{◌≡◌, ℕ, List, [], ◌∷◌, ◌++◌, Bool, true, false, not, ◌&&◌, ◌==◌, leb, ltb, refl, ap, ap₂, arith}
use Rattle.std.proofs.lemmas.Bool.Decides.{nat_tests}
use Rattle.std.specs.List.{list_all}
use Rattle.json.specs.Print.{escape_byte, escape}
use Rattle.si_text.specs.Printing.{is_plain}
use Rattle.si_text.specs.Texts.{key_text}

both : (a b : Bool) → (a && b) ≡ true → (a ≡ true) × (b ≡ true)
both true b e = (refl, e)
both false b e = cc

none : (b : Bool) → not b ≡ true → b ≡ false
none true e = cc
none false e = refl

-- JSON writes a plain byte as it is
plain_byte : (x : ℕ) → is_plain x ≡ true → escape_byte x ≡ x ∷ []
unfolding escape_byte
plain_byte x plain =
    let parts = both _ _ plain in
    let firsts = both _ _ parts.0 in
    let high : leb 32 x ≡ true = firsts.0 in
    let no_quote : (x == 34) ≡ false = none _ firsts.1 in
    let no_backslash : (x == 92) ≡ false = none _ parts.1 in
    let no_8 : (x == 8) ≡ false = grind (arith, nat_tests) in
    let no_9 : (x == 9) ≡ false = grind (arith, nat_tests) in
    let no_10 : (x == 10) ≡ false = grind (arith, nat_tests) in
    let no_12 : (x == 12) ≡ false = grind (arith, nat_tests) in
    let no_13 : (x == 13) ≡ false = grind (arith, nat_tests) in
    let no_control : ltb x 32 ≡ false = grind (arith, nat_tests) in
    rw (no_quote, no_backslash, no_8, no_12, no_10, no_13, no_9, no_control) refl

plain_escape : (text : List ℕ) → list_all is_plain text ≡ true → escape text ≡ text
plain_escape [] plain = refl
plain_escape (x ∷ text) plain =
    let parts = both _ _ plain in
    ap₂ (λ front behind. front ++ behind) (plain_byte x parts.0) (plain_escape text parts.1)

pub plain_text : (text : List ℕ) → list_all is_plain text ≡ true → key_text text ≡ (34 ∷ []) ++ text ++ (34 ∷ [])
plain_text text plain = ap (λ inner. 34 ∷ (inner ++ 34 ∷ [])) (plain_escape text plain)
