-- What lists contain that are made from other lists.
use Rattle.std.proofs.Common.{◌≡◌, ◌⊎◌, inl, inr, ℕ, ◌+◌, ◌<◌, Bool, true, false, List, [], ◌∷◌, length, map, take, get_or, Option, Some, None, zero, suc, refl, sym, ap, subst, ◌∙◌, arith, cond, slice_get}
use Rattle.std.specs.List.{Contains, AllByRecursion, flat_map, filter_map, cons_option, filter, enumerate_from}
use Rattle.std.proofs.lemmas.List.Elements.{Contains-append_left, Contains-append_right, Contains-append_cases}

pub same_some : {A : Type 0} {a b : A} → Some a ≡ Some b → a ≡ b
same_some e = cc

-- ---- an element more

pub Contains-nil : {X : Type 0} (y : X) → Contains [] y → ⊥
Contains-nil y c = absurd (omega (arith, c.1))

pub here : {X : Type 0} (x : X) (xs : List X) → Contains (x ∷ xs) x
here x xs = (0, omega arith, refl)

pub there : {X : Type 0} (x : X) (xs : List X) (y : X) → Contains xs y → Contains (x ∷ xs) y
there x xs y c = (suc c.0, omega (arith, c.1), c.2)

cases_at : {X : Type 0} (x : X) (xs : List X) (y : X) (k : ℕ) → k < length (x ∷ xs) → get_or (x ∷ xs) k y ≡ y → (x ≡ y) ⊎ Contains xs y
cases_at x xs y zero h e = inl e
cases_at x xs y (suc k) h e = inr (k, omega arith, e)

pub Contains-cons_cases : {X : Type 0} (x : X) (xs : List X) (y : X) → Contains (x ∷ xs) y → (x ≡ y) ⊎ Contains xs y
Contains-cons_cases x xs y c = cases_at x xs y c.0 c.1 c.2

pub Contains-one : {X : Type 0} (x y : X) → Contains (x ∷ []) y → x ≡ y
Contains-one x y c = elim (Contains-cons_cases x [] y c) [ inl e ↦ e | inr d ↦ absurd (Contains-nil y d) ]

pub Contains-option_cases : {Y : Type 0} (o : Option Y) (ys : List Y) (y : Y) → Contains (cons_option o ys) y → (o ≡ Some y) ⊎ Contains ys y
Contains-option_cases None ys y c = inr c
Contains-option_cases (Some z) ys y c = elim (Contains-cons_cases z ys y c) [ inl e ↦ inl (ap Some e) | inr c ↦ inr c ]

pub Contains-past_option : {Y : Type 0} (o : Option Y) (ys : List Y) (y : Y) → Contains ys y → Contains (cons_option o ys) y
Contains-past_option None ys y c = c
Contains-past_option (Some z) ys y c = there z ys y c

-- ---- lists made from other lists

pub Contains-flat_map : {X Y : Type 0} (f : X → List Y) (xs : List X) (x : X) (y : Y) → Contains xs x → Contains (f x) y → Contains (flat_map f xs) y
Contains-flat_map f [] x y c d = absurd (Contains-nil x c)
Contains-flat_map f (z ∷ xs) x y c d = elim (Contains-cons_cases z xs x c) [
  | inl e ↦ Contains-append_left (f z) (flat_map f xs) y (subst (λ w. Contains (f w) y) (sym e) d)
  | inr c ↦ Contains-append_right (f z) (flat_map f xs) y (Contains-flat_map f xs x y c d)
]

pub Contains-from_flat_map : {X Y : Type 0} (f : X → List Y) (xs : List X) (y : Y) → Contains (flat_map f xs) y → (x : X) × Contains xs x × Contains (f x) y
Contains-from_flat_map f [] y c = absurd (Contains-nil y c)
Contains-from_flat_map f (z ∷ xs) y c = elim (Contains-append_cases (f z) (flat_map f xs) y c) [
  | inl d ↦ (z, here z xs, d)
  | inr d ↦ let r = Contains-from_flat_map f xs y d in (r.0, there z xs r.0 r.1, r.2)
]

in_option : {X Y : Type 0} (h : X → Option Y) (z : X) (xs : List X) (y : Y) → h z ≡ Some y → Contains (filter_map h (z ∷ xs)) y
in_option h z xs y e = rw e (here y (filter_map h xs))

pub Contains-filter_map : {X Y : Type 0} (h : X → Option Y) (xs : List X) (x : X) (y : Y) → Contains xs x → h x ≡ Some y → Contains (filter_map h xs) y
Contains-filter_map h [] x y c e = absurd (Contains-nil x c)
Contains-filter_map h (z ∷ xs) x y c e = elim (Contains-cons_cases z xs x c) [
  | inl s ↦ in_option h z xs y (ap h s ∙ e)
  | inr c ↦ Contains-past_option (h z) (filter_map h xs) y (Contains-filter_map h xs x y c e)
]

pub Contains-from_filter_map : {X Y : Type 0} (h : X → Option Y) (xs : List X) (y : Y) → Contains (filter_map h xs) y → (x : X) × Contains xs x × (h x ≡ Some y)
Contains-from_filter_map h [] y c = absurd (Contains-nil y c)
Contains-from_filter_map h (z ∷ xs) y c = elim (Contains-option_cases (h z) (filter_map h xs) y c) [
  | inl e ↦ (z, here z xs, e)
  | inr d ↦ let r = Contains-from_filter_map h xs y d in (r.0, there z xs r.0 r.1, r.2)
]

pub Contains-map : {X Y : Type 0} (f : X → Y) (xs : List X) (x : X) → Contains xs x → Contains (map f xs) (f x)
Contains-map f [] x c = absurd (Contains-nil x c)
Contains-map f (z ∷ xs) x c = elim (Contains-cons_cases z xs x c) [
  | inl e ↦ subst (λ w. Contains (f z ∷ map f xs) (f w)) e (here (f z) (map f xs))
  | inr c ↦ there (f z) (map f xs) (f x) (Contains-map f xs x c)
]

pub Contains-from_map : {X Y : Type 0} (f : X → Y) (xs : List X) (y : Y) → Contains (map f xs) y → (x : X) × Contains xs x × (f x ≡ y)
Contains-from_map f [] y c = absurd (Contains-nil y c)
Contains-from_map f (z ∷ xs) y c = elim (Contains-cons_cases (f z) (map f xs) y c) [
  | inl e ↦ (z, here z xs, e)
  | inr d ↦ let r = Contains-from_map f xs y d in (r.0, there z xs r.0 r.1, r.2)
]

kept : {X : Type 0} (b : Bool) (z : X) (ys : List X) → b ≡ true → Contains (cond b (z ∷ ys) ys) z
kept true z ys e = here z ys
kept false z ys e = cc

kept_more : {X : Type 0} (b : Bool) (z : X) (ys : List X) (x : X) → Contains ys x → Contains (cond b (z ∷ ys) ys) x
kept_more true z ys x c = there z ys x c
kept_more false z ys x c = c

pub Contains-filter : {X : Type 0} (p : X → Bool) (xs : List X) (x : X) → Contains xs x → p x ≡ true → Contains (filter p xs) x
Contains-filter p [] x c e = c
Contains-filter p (z ∷ xs) x c e = elim (Contains-cons_cases z xs x c) [
  | inl s ↦ subst (λ w. Contains (filter p (z ∷ xs)) w) s (kept (p z) z (filter p xs) (ap p s ∙ e))
  | inr c ↦ kept_more (p z) z (filter p xs) x (Contains-filter p xs x c e)
]

kept_cases : {X : Type 0} (b : Bool) (z : X) (ys : List X) (x : X) → Contains (cond b (z ∷ ys) ys) x → ((b ≡ true) × (z ≡ x)) ⊎ Contains ys x
kept_cases true z ys x c = elim (Contains-cons_cases z ys x c) [ inl e ↦ inl (refl, e) | inr c ↦ inr c ]
kept_cases false z ys x c = inr c

pub Contains-from_filter : {X : Type 0} (p : X → Bool) (xs : List X) (x : X) → Contains (filter p xs) x → Contains xs x × (p x ≡ true)
Contains-from_filter p [] x c = absurd (Contains-nil x c)
Contains-from_filter p (z ∷ xs) x c = elim (kept_cases (p z) z (filter p xs) x c) [
  | inl e ↦ (subst (λ w. Contains (z ∷ xs) w) e.1 (here z xs), ap p (sym e.1) ∙ e.0)
  | inr d ↦ let r = Contains-from_filter p xs x d in (there z xs x r.0, r.1)
]

-- ---- elements at their places

pub get_contains : {X : Type 0} (xs : List X) (i : ℕ) (x : X) → slice_get xs i ≡ Some x → Contains xs x
get_contains [] i x e = cc
get_contains (y ∷ xs) zero x e = subst (λ w. Contains (y ∷ xs) w) (same_some e) (here y xs)
get_contains (y ∷ xs) (suc i) x e = there y xs x (get_contains xs i x e)

pub contains_get : {X : Type 0} (xs : List X) (x : X) → Contains xs x → (i : ℕ) × (slice_get xs i ≡ Some x)
contains_get [] x c = absurd (Contains-nil x c)
contains_get (y ∷ xs) x c = elim (Contains-cons_cases y xs x c) [
  | inl e ↦ (0, ap Some e)
  | inr d ↦ (let r = contains_get xs x d in (suc r.0, r.1))
]

pub take_contains : {X : Type 0} (xs : List X) (i j : ℕ) (x : X) → j < i → slice_get xs j ≡ Some x → Contains (take i xs) x
take_contains [] i j x l e = cc
take_contains (y ∷ xs) zero j x l e = absurd (omega arith)
take_contains (y ∷ xs) (suc i) zero x l e = subst (λ w. Contains (y ∷ take i xs) w) (same_some e) (here y (take i xs))
take_contains (y ∷ xs) (suc i) (suc j) x l e = there y (take i xs) x (take_contains xs i j x (omega arith) e)

pub taken_at : {X : Type 0} (xs : List X) (i : ℕ) (x : X) → Contains (take i xs) x → (j : ℕ) × (j < i) × (slice_get xs j ≡ Some x)
taken_at [] zero x c = absurd (Contains-nil x c)
taken_at [] (suc i) x c = absurd (Contains-nil x c)
taken_at (y ∷ xs) zero x c = absurd (Contains-nil x c)
taken_at (y ∷ xs) (suc i) x c = elim (Contains-cons_cases y (take i xs) x c) [
  | inl e ↦ (0, omega arith, ap Some e)
  | inr d ↦ (let f = taken_at xs i x d in (suc f.0, (let l = f.1 in omega arith), f.2))
]

-- an element with its place
pub Contains-enumerate : {X : Type 0} (n : ℕ) (xs : List X) (i : ℕ) (x : X) → slice_get xs i ≡ Some x → Contains (enumerate_from n xs) (n + i, x)
Contains-enumerate n [] i x e = cc
Contains-enumerate n (y ∷ xs) zero x e =
    let pair : (n, y) ≡ (n + 0, x) = (λ j. ((let s : n ≡ n + 0 = omega arith in s) j, same_some e j)) in
    subst (λ w. Contains (enumerate_from n (y ∷ xs)) w) pair (here (n, y) (enumerate_from (n + 1) xs))
Contains-enumerate n (y ∷ xs) (suc i) x e =
    let s : (n + 1) + i ≡ n + suc i = omega arith in
    subst (λ w. Contains (enumerate_from n (y ∷ xs)) (w, x)) s (there (n, y) (enumerate_from (n + 1) xs) ((n + 1) + i, x) (Contains-enumerate (n + 1) xs i x e))

pub Contains-from_enumerate : {X : Type 0} (n : ℕ) (xs : List X) (p : ℕ × X) → Contains (enumerate_from n xs) p → (i : ℕ) × (p.0 ≡ n + i) × (slice_get xs i ≡ Some p.1)
Contains-from_enumerate n [] p c = absurd (Contains-nil p c)
Contains-from_enumerate n (y ∷ xs) p c = elim (Contains-cons_cases (n, y) (enumerate_from (n + 1) xs) p c) [
  | inl e ↦ (0, (let s : p.0 ≡ n = ap (λ q. q.0) (sym e) in omega arith), ap (λ q. Some q.1) e)
  | inr d ↦ let r = Contains-from_enumerate (n + 1) xs p d in (suc r.0, (let s = r.1 in omega arith), r.2)
]

-- ---- what holds of each element

pub at_each : {K : Type 0} (P : K → Type 0) (xs : List K) (x : K) → AllByRecursion P xs → Contains xs x → P x
at_each P [] x a c = absurd (Contains-nil x c)
at_each P (y ∷ xs) x a c = elim (Contains-cons_cases y xs x c) [ inl e ↦ subst P e a.0 | inr c ↦ at_each P xs x a.1 c ]

pub from_each : {K : Type 0} (P : K → Type 0) (xs : List K) → ((x : K) → Contains xs x → P x) → AllByRecursion P xs
from_each P [] f = tt
from_each P (y ∷ xs) f = (f y (here y xs), from_each P xs (λ x c. f x (there y xs x c)))
