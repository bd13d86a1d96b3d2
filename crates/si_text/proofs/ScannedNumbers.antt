-- Lemmas on the numbers among a line's tokens.
use Rattle.std.proofs.Common.{◌≡◌, ◌≢◌, ℕ, ◌^◌, ◌<◌, List, get_or, Option, Some, None, IfSome, lt-ltb, eq-eqb, ne_eqb, sym, ap, ◌∙◌, subst}
use Rattle.std.specs.Option.{SomeIff}
use Rattle.fast_float.specs.Text.{Parts, scan, digits_of, IsInteger}
use Rattle.serde_json.specs.Data.{unsigned}
use Rattle.serde_json.specs.Read.{number_of}

number_of_digits : (s : List ℕ) → get_or s 0 0 ≢ 45 → IsInteger (scan s) → digits_of (scan s) < 2 ^ 64 → number_of s ≡ Some (unsigned (digits_of (scan s)))
unfolding number_of
number_of_digits s plain integer fits = let none = eq-eqb _ _ integer.2 in rw (ne_eqb _ _ plain, lt-ltb _ _ integer.0, integer.1, none, lt-ltb _ _ fits)

pub number_scanned : (o : Option ℕ) (s : List ℕ) (p : Parts) → p ≡ scan s → get_or s 0 0 ≢ 45 → SomeIff o (IsInteger p × (digits_of p < 2 ^ 64)) (digits_of p) → IfSome o (λ n. number_of s ≡ Some (unsigned n))
number_scanned None s p is plain h = tt
number_scanned (Some n) s p is plain h =
    let told : (IsInteger (scan s) × (digits_of (scan s) < 2 ^ 64)) × (n ≡ digits_of (scan s)) = subst (λ q. (IsInteger q × (digits_of q < 2 ^ 64)) × (n ≡ digits_of q)) is h in
    number_of_digits s plain told.0.0 told.0.1 ∙ ap (λ k. Some (unsigned k)) (sym told.1)
