-- What searches among numbers in order find.
use Rattle.std.proofs.Common.{◌≡◌, ℕ, ◌≤◌, ◌+◌, Bool, true, false, cond, List, [], ◌∷◌, Result, Ok, Err, ap, refl, sym, ◌∙◌, arith, length, get_or, zero, nat_eq, eq-eqb, eqb-true, suc, inl, inr, is_ok}
use Rattle.std.specs.List.{count_by, list_any}
use Rattle.std.specs.List.Sorted.{IsPartitionPoint, IsBinarySearchResult, IsSorted}
use Rattle.std.specs.Ordering.{nat_cmp}
use Rattle.std.proofs.lemmas.List.Sums.{sum_by-cons}
use Rattle.std.proofs.lemmas.List.Sorted.{IsNonDecreasingBy-from_sort, searched}
use Rattle.std.proofs.lemmas.List.Elements.{Contains-get_or}
use Rattle.std.proofs.lemmas.List.{get_or_default}
use Rattle.std.proofs.lemmas.Bool.{cases_lt}
use Rattle.si_lists.proofs.Tests.{any_is, any_from}

-- so many pass as stand before the place where those that pass end
pub count_point : {X : Type 0} (p : X → Bool) (xs : List X) (i : ℕ) → i ≤ length xs → IsPartitionPoint (λ y. p y ≡ true) (λ y. p y ≡ false) xs i → i ≡ count_by p xs
count_point p [] i h q = omega arith
count_point p (x ∷ xs) zero h q =
    let rest : zero ≡ count_by p xs = count_point p xs zero (omega arith) ((λ k d a b. absurd (omega arith)), (λ k d a b. q.1 (suc k) d (omega arith) (omega arith))) in
    rest ∙ sym (sum_by-cons (λ y. cond (p y) 1 0) x xs ∙ ap (λ b. cond b 1 0 + count_by p xs) (q.1 0 x (omega arith) (omega arith)) ∙ omega arith)
count_point p (x ∷ xs) (suc i) h q =
    let rest : i ≡ count_by p xs = count_point p xs i (omega arith) ((λ k d a b. q.0 (suc k) d (omega arith) (omega arith)), (λ k d a b. q.1 (suc k) d (omega arith) (omega arith))) in
    let here = ap (λ b. cond b 1 0 + count_by p xs) (q.0 0 x (omega arith) (omega arith)) in
    omega (arith, sum_by-cons (λ y. cond (p y) 1 0) x xs, here)

-- a search in order finds a number exactly where it is there
pub search_is_any : (xs : List ℕ) (n : ℕ) (r : Result ℕ ℕ) → IsBinarySearchResult (λ y. nat_cmp y n) xs r → IsSorted nat_cmp xs → is_ok r ≡ list_any (λ m. nat_eq m n) xs
search_is_any xs n (Ok i) s o =
    let found = searched xs n (Ok i) s (λ i j a b. IsNonDecreasingBy-from_sort (λ y. y) xs o i j 0 a b) in
    sym (any_from (λ m. nat_eq m n) xs (get_or xs i 0) (Contains-get_or xs i 0 found.0) (eq-eqb (get_or xs i 0) n found.1))
search_is_any xs n (Err i) s o =
    let found = searched xs n (Err i) s (λ i j a b. IsNonDecreasingBy-from_sort (λ y. y) xs o i j 0 a b) in
    elim (list_any (λ m. nat_eq m n) xs) as (λ b. list_any (λ m. nat_eq m n) xs ≡ b → false ≡ b) [
      | true ↦ λ e.
          (let f = any_is (λ m. nat_eq m n) xs e in
          let at = get_or_default xs f.1.0 f.0 0 f.1.1 in
          let is = eqb-true f.0 n f.2 in
          absurd (elim (cases_lt f.1.0 i) as (λ s. ⊥) [ inl l ↦ (let low = found.1 f.1.0 l in omega (arith, at, f.1.2)) | inr r ↦ (let high = found.2 f.1.0 r f.1.1 in omega (arith, at, f.1.2)) ]))
      | false ↦ λ e. refl
    ] refl
