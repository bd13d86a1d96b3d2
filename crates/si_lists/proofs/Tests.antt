-- What tests of lists say, and what searches find.
use Rattle.std.proofs.Common.{◌≡◌, inl, inr, Bool, true, false, ◌||◌, List, [], ◌∷◌, Option, Some, None, refl, ap, subst, cond}
use Rattle.std.specs.List.{Contains, find, list_any, list_all}
use Rattle.std.specs.Option.{option_or, option_map, is_some}
use Rattle.std.proofs.lemmas.Bool.{and_parts, and_from}
use Rattle.si_lists.proofs.Members.{same_some, Contains-nil, here, there, Contains-cons_cases}

module _ {X : Type 0} (p : X → Bool) where
  pub all_at : (xs : List X) (x : X) → list_all p xs ≡ true → Contains xs x → p x ≡ true
  all_at [] x e c = absurd (Contains-nil x c)
  all_at (y ∷ xs) x e c = let both = and_parts (p y) (list_all p xs) e in elim (Contains-cons_cases y xs x c) [
    | inl s ↦ subst (λ w. p w ≡ true) s both.0
    | inr d ↦ all_at xs x both.1 d
  ]

  pub all_from : (xs : List X) → ((x : X) → Contains xs x → p x ≡ true) → list_all p xs ≡ true
  all_from [] f = refl
  all_from (y ∷ xs) f = and_from (p y) (list_all p xs) (f y (here y xs)) (all_from xs (λ x c. f x (there y xs x c)))

  pub any_from : (xs : List X) (x : X) → Contains xs x → p x ≡ true → list_any p xs ≡ true
  any_from [] x c e = absurd (Contains-nil x c)
  any_from (y ∷ xs) x c e = elim (p y) as (λ b. p y ≡ b → (b || list_any p xs) ≡ true) [
    | true ↦ λ t. refl
    | false ↦ λ t. elim (Contains-cons_cases y xs x c) [ inl s ↦ cc (subst (λ w. p w ≡ false) s t) | inr d ↦ any_from xs x d e ]
  ] refl

  pub any_is : (xs : List X) → list_any p xs ≡ true → (x : X) × Contains xs x × (p x ≡ true)
  any_is [] e = cc
  any_is (y ∷ xs) e = elim (p y) as (λ b. p y ≡ b → (b || list_any p xs) ≡ true → (x : _) × Contains (y ∷ xs) x × (p x ≡ true)) [
    | true ↦ λ t f. (y, here y xs, t)
    | false ↦ λ t f. (let r = any_is xs f in (r.0, there y xs r.0 r.1, r.2))
  ] refl e

  pub find-Some : (xs : List X) (x : X) → find p xs ≡ Some x → Contains xs x × (p x ≡ true)
  find-Some [] x e = cc
  find-Some (y ∷ xs) x e = elim (p y) as (λ b. p y ≡ b → cond b (Some y) (find p xs) ≡ Some x → Contains (y ∷ xs) x × (p x ≡ true)) [
    | true ↦ λ t f. (let s : y ≡ x = same_some f in (subst (λ w. Contains (y ∷ xs) w) s (here y xs), subst (λ w. p w ≡ true) s t))
    | false ↦ λ t f. (let r = find-Some xs x f in (there y xs x r.0, r.1))
  ] refl e

  pub find-None : (xs : List X) → find p xs ≡ None → (x : X) → Contains xs x → p x ≡ false
  find-None [] e x c = absurd (Contains-nil x c)
  find-None (y ∷ xs) e x c = elim (p y) as (λ b. p y ≡ b → cond b (Some y) (find p xs) ≡ None → p x ≡ false) [
    | true ↦ λ t f. cc
    | false ↦ λ t f. elim (Contains-cons_cases y xs x c) [ inl s ↦ subst (λ w. p w ≡ false) s t | inr d ↦ find-None xs f x d ]
  ] refl e

  -- an element that passes, where all that pass are one
  pub find_only : (xs : List X) (x : X) → Contains xs x → p x ≡ true → ((y : X) → Contains xs y → p y ≡ true → y ≡ x) → find p xs ≡ Some x
  find_only xs x c t one = elim (find p xs) as (λ o. find p xs ≡ o → o ≡ Some x) [
    | None ↦ λ e. (let f = find-None xs e x c in cc)
    | Some y ↦ λ e. (let r = find-Some xs y e in ap Some (one y r.0 r.1))
  ] refl

  pub find_none : (xs : List X) → ((y : X) → Contains xs y → p y ≡ true → ⊥) → find p xs ≡ None
  find_none xs never = elim (find p xs) as (λ o. find p xs ≡ o → o ≡ None) [
    | None ↦ λ e. refl
    | Some y ↦ λ e. (let r = find-Some xs y e in absurd (never y r.0 r.1))
  ] refl

-- ---- options

-- an option of which no value can be given is none
pub no_value : {X : Type 0} (o : Option X) → ((x : X) → o ≡ Some x → ⊥) → o ≡ None
no_value None f = refl
no_value (Some x) f = absurd (f x refl)

pub none_both : {X : Type 0} (a b : Option X) → option_or a b ≡ None → (a ≡ None) × (b ≡ None)
none_both None b e = (refl, e)
none_both (Some x) b e = cc

pub none_from : {X : Type 0} (a b : Option X) → a ≡ None → b ≡ None → option_or a b ≡ None
none_from None b e f = f
none_from (Some x) b e f = cc

pub none_mapped : {X Y : Type 0} (f : X → Y) (o : Option X) → option_map f o ≡ None → o ≡ None
none_mapped f None e = refl
none_mapped f (Some x) e = cc

pub mapped_none : {X Y : Type 0} (f : X → Y) (o : Option X) → o ≡ None → option_map f o ≡ None
mapped_none f None e = refl
mapped_none f (Some x) e = cc

pub mapped_some : {X Y : Type 0} (f : X → Y) (o : Option X) (y : Y) → option_map f o ≡ Some y → (x : X) × (o ≡ Some x) × (f x ≡ y)
mapped_some f None y e = cc
mapped_some f (Some x) y e = (x, refl, same_some e)

-- a choice that is none wasn't made
pub not_chosen : {X : Type 0} (b : Bool) (x : X) → cond b (Some x) None ≡ None → b ≡ false
not_chosen true x e = cc
not_chosen false x e = refl

pub is_none : {X : Type 0} (o : Option X) → is_some o ≡ false → o ≡ None
is_none None e = refl
is_none (Some x) e = cc
