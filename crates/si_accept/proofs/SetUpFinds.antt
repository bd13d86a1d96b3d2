-- What a map of set-up values finds.
use Rattle.std.proofs.Common.{◌≡◌, ℕ, Bool, true, false, List, [], ◌∷◌, None, Some, refl, sym, ap, ◌∙◌, cond, length, arith}
use Rattle.std.specs.List.{find}
use Rattle.std.specs.Map.{lookup}
use Rattle.std.specs.Option.{option_map}
use Rattle.si_model.specs.declared.numbers.Value.{Value}
use Rattle.si_model.specs.Operations.{same_key}
use Rattle.si_model.specs.Parts.{set_up_value}
use Rattle.si_model.proofs.Equalities.{same_key_is, same_key_from}

same_key_turned : (x y : List ℕ) → same_key x y ≡ same_key y x
same_key_turned x y = by (same_key x y) (same_key y x) refl refl
  where
    by : (a b : Bool) → same_key x y ≡ a → same_key y x ≡ b → a ≡ b
    by true true e f = refl
    by false false e f = refl
    by true false e f = (let g = same_key_from y x (sym (same_key_is x y e)) in cc)
    by false true e f = (let g = same_key_from x y (sym (same_key_is y x f)) in cc)

found_in : (x : List ℕ) (es : List (List ℕ × Value)) → lookup (same_key x) es ≡ option_map (λ pair. pair.1) (find (λ pair. same_key pair.0 x) es)
found_in x [] = refl
found_in x (p ∷ es) = ap (λ b. cond b (Some p.1) (lookup (same_key x) es)) (same_key_turned x p.0) ∙ by (found_in x es) (same_key p.0 x)
  where
    by : lookup (same_key x) es ≡ option_map (λ (pair : List ℕ × Value). pair.1) (find (λ pair. same_key pair.0 x) es) → (b : Bool) → cond b (Some p.1) (lookup (same_key x) es) ≡ option_map (λ (pair : List ℕ × Value). pair.1) (cond b (Some p) (find (λ pair. same_key pair.0 x) es))
    by rest true = refl
    by rest false = rest

pub set_up_found : (x : List ℕ) (es : List (List ℕ × Value)) → lookup (same_key x) es ≡ set_up_value x es
unfolding set_up_value
set_up_found x es = found_in x es

pub none_of_none : (x : List ℕ) (es : List (List ℕ × Value)) → length es ≡ 0 → None ≡ set_up_value x es
unfolding set_up_value
none_of_none x [] e = refl
none_of_none x (p ∷ es) e = absurd (omega (arith, e))
