-- The numbers of keys, before and after a key gets one.
use Rattle.std.proofs.Common.{◌≡◌, ℕ, zero, suc, ◌<◌, ◌≤◌, Bool, true, false, ◌||◌, nat_eq, List, [], ◌∷◌, ◌++◌, length, get_or, Some, None, refl, sym, ap, subst, ◌∙◌, arith, cond, length-append, eq-eqb, eqb-true}
use Rattle.std.specs.List.{AllByRecursion, IsDistinct, list_any, position}
use Rattle.std.proofs.lemmas.Bool.Decides.{nat_tests}
use Rattle.std.proofs.lemmas.List.Quantifiers.{position-Some}
use Rattle.std.proofs.lemmas.Grind.{common_steps}
use Rattle.si_model.specs.Operations.{same_key}
use Rattle.si_model.proofs.Equalities.{same_key_is, same_key_from}
use Rattle.si_accept.specs.KeyNumbers.{number_of, with_key}

-- each key keeps its number, and new numbers come after the old ones
pub record IsGrown (old new : List (List ℕ)) : Type 0 where
  pub stays : (y : List ℕ) (n : ℕ) → number_of old y ≡ Some n → number_of new y ≡ Some n
  pub fresh : (y : List ℕ) (n : ℕ) → number_of old y ≡ None → number_of new y ≡ Some n → length old ≤ n
  pub longer : length old ≤ length new

pub unchanged : (K : List (List ℕ)) → IsGrown K K
unchanged K = record { stays = λ y n e. e; fresh = λ y n e h. cc; longer = omega arith }

place_stays : (p : List ℕ → Bool) (K : List (List ℕ)) (x : List ℕ) (n : ℕ) → position p K ≡ Some n → position p (K ++ x ∷ []) ≡ Some n
place_stays p K x n e = grind (arith, nat_tests, common_steps)

place_is_last : (p : List ℕ → Bool) (K : List (List ℕ)) (x : List ℕ) (n : ℕ) → position p K ≡ None → position p (K ++ x ∷ []) ≡ Some n → length K ≤ n
place_is_last p K x n e h = grind (arith, nat_tests, common_steps)

pushed : (K : List (List ℕ)) (x : List ℕ) → IsGrown K (K ++ x ∷ [])
pushed K x = record {
  stays = λ y n e. place_stays (same_key y) K x n e;
  fresh = λ y n e h. place_is_last (same_key y) K x n e h;
  longer = omega (arith, length-append K (x ∷ []));
}

pub grown : (K : List (List ℕ)) (x : List ℕ) → IsGrown K (with_key K x)
grown K x = elim (list_any (same_key x) K) as (λ b. IsGrown K (cond b K (K ++ x ∷ []))) [ true ↦ unchanged K | false ↦ pushed K x ]

pub number_is_below : (K : List (List ℕ)) (x : List ℕ) (n : ℕ) → number_of K x ≡ Some n → n < length K
number_is_below K x n e = (position-Some (same_key x) K n [] e).0

bool_same : (a b : Bool) → (a ≡ true → b ≡ true) → (b ≡ true → a ≡ true) → a ≡ b
bool_same true true f g = refl
bool_same true false f g = sym (f refl)
bool_same false true f g = g refl
bool_same false false f g = refl

same_number : {m n : ℕ} → Some m ≡ Some n → m ≡ n
same_number e = cc

-- two keys have one number exactly where they are one
pub numbers_tell : (K : List (List ℕ)) (x y : List ℕ) (n m : ℕ) → number_of K x ≡ Some n → number_of K y ≡ Some m → nat_eq n m ≡ same_key y x
numbers_tell K x y n m e h = bool_same (nat_eq n m) (same_key y x) one_key one_number
  where
    one_key : nat_eq n m ≡ true → same_key y x ≡ true
    one_key t =
        let same = eqb-true n m t in
        let here = same_key_is x (get_or K n []) (position-Some (same_key x) K n [] e).1 in
        let there = same_key_is y (get_or K m []) (position-Some (same_key y) K m [] h).1 in
        subst (λ z. same_key y z ≡ true) (there ∙ ap (λ k. get_or K k []) (sym same) ∙ sym here) (same_key_from y y refl)

    one_number : same_key y x ≡ true → nat_eq n m ≡ true
    one_number t = eq-eqb n m (same_number (sym e ∙ ap (number_of K) (sym (same_key_is y x t)) ∙ h))

-- ---- a key that stands at a place has that number, where no key stands twice

place_after : (p : List ℕ → Bool) (y : List ℕ) (ys : List (List ℕ)) (i : ℕ) → p y ≡ false → position p ys ≡ Some i → position p (y ∷ ys) ≡ Some (suc i)
place_after p y ys i not_here e = grind (arith, nat_tests, common_steps)

place_first : (p : List ℕ → Bool) (y : List ℕ) (ys : List (List ℕ)) → p y ≡ true → position p (y ∷ ys) ≡ Some zero
place_first p y ys here = grind (arith, nat_tests, common_steps)

differs_at : (y : List ℕ) (ys : List (List ℕ)) (i : ℕ) (d : List ℕ) → AllByRecursion (λ z. same_key y z ≡ false) ys → i < length ys → same_key y (get_or ys i d) ≡ false
differs_at y [] i d all below = absurd (omega (arith, below))
differs_at y (z ∷ ys) zero d all below = all.0
differs_at y (z ∷ ys) (suc i) d all below = differs_at y ys i d all.1 (omega (arith, below))

other_way : (x y : List ℕ) → same_key x y ≡ false → same_key y x ≡ false
other_way x y differ = go (same_key y x) refl
  where
    go : (b : Bool) → same_key y x ≡ b → b ≡ false
    go true e = (let back = same_key_from x y (sym (same_key_is y x e)) in cc)
    go false e = refl

number_at : (K : List (List ℕ)) (i : ℕ) (d : List ℕ) → IsDistinct same_key K → i < length K → number_of K (get_or K i d) ≡ Some i
unfolding IsDistinct
number_at [] i d once below = absurd (omega (arith, below))
number_at (y ∷ ys) zero d once below = place_first (same_key y) y ys (same_key_from y y refl)
number_at (y ∷ ys) (suc i) d once below =
    let inside : i < length ys = omega (arith, below) in
    place_after (same_key (get_or ys i d)) y ys i (other_way y (get_or ys i d) (differs_at y ys i d once.0 inside)) (number_at ys i d once.1 inside)

-- the number of a key that is the one at a place
pub number_found : (K : List (List ℕ)) (x y d : List ℕ) (i : ℕ) → IsDistinct same_key K → i < length K → y ≡ get_or K i d → same_key y x ≡ true → number_of K x ≡ Some i
number_found K x y d i once below there same = ap (number_of K) (sym (same_key_is y x same) ∙ there) ∙ number_at K i d once below

among : (p : List ℕ → Bool) (ks : List (List ℕ)) (i : ℕ) (d : List ℕ) → i < length ks → p (get_or ks i d) ≡ true → list_any p ks ≡ true
among p [] i d below here = absurd (omega (arith, below))
among p (k ∷ ks) zero d below here = ap (λ b. b || list_any p ks) here
among p (k ∷ ks) (suc i) d below here = or_true (p k) (list_any p ks) (among p ks i d (omega (arith, below)) here)
  where
    or_true : (b c : Bool) → c ≡ true → b || c ≡ true
    or_true true c t = refl
    or_true false c t = t

-- a key that has a number is there already
pub with_key_there : (K : List (List ℕ)) (x : List ℕ) (i : ℕ) → number_of K x ≡ Some i → K ≡ with_key K x
with_key_there K x i e =
    let place = position-Some (same_key x) K i [] e in
    sym (ap (λ b. cond b K (K ++ x ∷ [])) (among (same_key x) K i [] place.0 place.1))
