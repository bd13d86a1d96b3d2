-- Lists whose elements differ pairwise: in a name, a number from 0.
use Rattle.std.proofs.Common.{◌≡◌, ◌≢◌, inl, inr, List, [], ◌∷◌, ◌++◌, map, get_or, Option, Some, None, suc, refl, sym, ap, subst, ◌∙◌, arith}
use Rattle.std.specs.List.{Contains, AllPairs, filter_map, cons_option}
use Rattle.std.proofs.lemmas.List.Elements.{Contains-get_or}
use Rattle.std.proofs.lemmas.List.Kept.{AllPairs-cons}
use Rattle.std.proofs.lemmas.List.Quantifiers.{all_pairs_push}
use Rattle.si_lists.proofs.Members.{Contains-nil, here, Contains-cons_cases, Contains-from_filter_map, Contains-from_map}

pub pairs_nil : {X : Type 0} (R : X → X → Type 0) → AllPairs R []
pairs_nil R = λ i j d a l. absurd (omega arith)

pub pairs_head : {X : Type 0} (R : X → X → Type 0) (x : X) (xs : List X) → AllPairs R (x ∷ xs) → (y : X) → Contains xs y → R x y
pairs_head R x xs p y c = subst (R x) c.2 (p 0 (suc c.0) y (omega arith) (omega (arith, c.1)))

pub pairs_tail : {X : Type 0} (R : X → X → Type 0) (x : X) (xs : List X) → AllPairs R (x ∷ xs) → AllPairs R xs
pairs_tail R x xs p = λ i j d h l. p (suc i) (suc j) d (omega arith) (omega arith)

pub pairs_cons : {X : Type 0} (R : X → X → Type 0) (x : X) (xs : List X) → ((y : X) → Contains xs y → R x y) → AllPairs R xs → AllPairs R (x ∷ xs)
pairs_cons R x xs f p = AllPairs-cons R x xs (λ k d h. f (get_or xs k d) (Contains-get_or xs k d h)) p

pub pairs_push : {X : Type 0} (R : X → X → Type 0) (xs : List X) (y : X) → AllPairs R xs → ((x : X) → Contains xs x → R x y) → AllPairs R (xs ++ y ∷ [])
pairs_push R xs y p f = all_pairs_push R xs y p (λ i d l. f (get_or xs i d) (Contains-get_or xs i d l))

-- the last element and one before it
pub pairs_last : {X : Type 0} (R : X → X → Type 0) (xs : List X) (x y : X) → AllPairs R (xs ++ x ∷ []) → Contains xs y → R y x
pairs_last R [] x y p c = absurd (Contains-nil y c)
pairs_last R (z ∷ xs) x y p c = elim (Contains-cons_cases z xs y c) [
  | inl e ↦ subst (λ w. R w x) e (pairs_head R z (xs ++ x ∷ []) p x (at_end xs x))
  | inr d ↦ pairs_last R xs x y (pairs_tail R z (xs ++ x ∷ []) p) d
]
  where
    at_end : {X : Type 0} (xs : List X) (x : X) → Contains (xs ++ x ∷ []) x
    at_end [] x = here x []
    at_end (z ∷ xs) x = let c = at_end xs x in (suc c.0, omega (arith, c.1), c.2)

-- two elements have different names
abbrev pub Differ : {X Y : Type 0} → (X → Y) → X → X → Type 0
Differ name a b = name a ≢ name b

-- where names are distinct, two of one name are one
pub same_named : {X Y : Type 0} (name : X → Y) (xs : List X) → AllPairs (Differ name) xs → (a b : X) → Contains xs a → Contains xs b → name a ≡ name b → a ≡ b
same_named name [] p a b c d e = absurd (Contains-nil a c)
same_named name (x ∷ xs) p a b c d e = elim (Contains-cons_cases x xs a c) [
  | inl u ↦ elim (Contains-cons_cases x xs b d) [
    | inl v ↦ sym u ∙ v
    | inr f ↦ absurd (pairs_head (Differ name) x xs p b f (ap name u ∙ e))
  ]
  | inr g ↦ elim (Contains-cons_cases x xs b d) [
    | inl v ↦ absurd (pairs_head (Differ name) x xs p a g (ap name v ∙ sym e))
    | inr f ↦ same_named name xs (pairs_tail (Differ name) x xs p) a b g f e
  ]
]

-- names stay distinct where each element keeps its name
pub names_map : {X Y N : Type 0} (name : X → N) (named : Y → N) (f : X → Y) → ((x : X) → named (f x) ≡ name x) → (xs : List X) → AllPairs (Differ name) xs → AllPairs (Differ named) (map f xs)
names_map name named f same [] p = pairs_nil (Differ named)
names_map name named f same (x ∷ xs) p = pairs_cons (Differ named) (f x) (map f xs)
    (λ y c s. let w = Contains-from_map f xs y c in pairs_head (Differ name) x xs p w.0 w.1 (sym (same x) ∙ s ∙ ap named (sym w.2) ∙ same w.0))
    (names_map name named f same xs (pairs_tail (Differ name) x xs p))

-- and where some are left out and each that stays keeps its name
pub names_filter_map : {X Y N : Type 0} (name : X → N) (named : Y → N) (h : X → Option Y) → ((x : X) (y : Y) → h x ≡ Some y → named y ≡ name x) → (xs : List X) → AllPairs (Differ name) xs → AllPairs (Differ named) (filter_map h xs)
names_filter_map name named h same [] p = pairs_nil (Differ named)
names_filter_map {Y = Y} name named h same (x ∷ xs) p =
    let rest : AllPairs (Differ named) (filter_map h xs) = names_filter_map name named h same xs (pairs_tail (Differ name) x xs p) in
    let first : (y : Y) → h x ≡ Some y → (z : Y) → Contains (filter_map h xs) z → named y ≢ named z =
    λ y e z c s. let w = Contains-from_filter_map h xs z c in pairs_head (Differ name) x xs p w.0 w.1 (sym (same x y e) ∙ s ∙ same w.0 z w.2) in
    one_more (h x) (filter_map h xs) (Differ named) rest first
  where
    one_more : {Y : Type 0} (o : Option Y) (ys : List Y) (R : Y → Y → Type 0) → AllPairs R ys → ((y : Y) → o ≡ Some y → (z : Y) → Contains ys z → R y z) → AllPairs R (cons_option o ys)
    one_more None ys R rest first = rest
    one_more (Some y) ys R rest first = pairs_cons R y ys (first y refl) rest
