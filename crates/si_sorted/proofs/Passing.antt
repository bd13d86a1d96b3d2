-- Adding what is told of some entries that are chosen, one after the other.
use Rattle.std.proofs.Common.{◌≡◌, refl, suc, zero, ◌∙◌, ◌<◌, ◌≤◌, ◌++◌, ◌∷◌, [], ◌+◌, ℕ, List, Option, length, take, get_or, sym, ap, subst, append_assoc, arith}
use Rattle.std.specs.List.{cons_option, filter_map}
use Rattle.std.proofs.lemmas.List.{take_more}
use Rattle.std.proofs.lemmas.List.Elements.{filter_map-append}

all_taken : {X : Type 0} (xs : List X) (n : ℕ) → length xs ≤ n → take n xs ≡ xs
all_taken [] zero le = refl
all_taken [] (suc n) le = refl
all_taken (x ∷ xs) zero le = absurd (omega arith)
all_taken (x ∷ xs) (suc n) le = ap (λ l. x ∷ l) (all_taken xs n (omega arith))

module _ {X Y : Type 0} (h : X → Option Y) where
  -- at the end
  pub all_told : (old new : List Y) (es : List X) (n : ℕ) → length es ≤ n → new ≡ old ++ filter_map h (take n es) → new ≡ old ++ filter_map h es
  all_told old new es n le so_far = subst (λ l. new ≡ old ++ filter_map h l) (all_taken es n le) so_far

  -- what is told of the next one was added, if it was chosen
  pub one_told : (old mid new : List Y) (xs : List X) → mid ≡ old ++ filter_map h xs → (x : X) (o : Option Y) → o ≡ h x → new ≡ mid ++ cons_option o [] → new ≡ old ++ filter_map h (xs ++ x ∷ [])
  one_told old mid new xs so_far x o told added =
      added ∙ ap (λ l. l ++ cons_option o []) so_far ∙ append_assoc old (filter_map h xs) (cons_option o [])
      ∙ ap (λ a. old ++ (filter_map h xs ++ cons_option a [])) told ∙ ap (λ l. old ++ l) (sym (filter_map-append h xs (x ∷ [])))

  -- the same of the entry at a place
  pub entry_told : (old mid new : List Y) (es : List X) (i : ℕ) → mid ≡ old ++ filter_map h (take i es) → i < length es → (x : X) → x ≡ get_or es i x → (o : Option Y) → o ≡ h x
      → new ≡ mid ++ cons_option o [] → new ≡ old ++ filter_map h (take (i + 1) es)
  entry_told old mid new es i so_far within x is o told added =
      subst (λ l. new ≡ old ++ filter_map h l) (ap (λ y. take i es ++ y ∷ []) is ∙ sym (take_more es i x within))
      (one_told old mid new (take i es) so_far x o told added)
