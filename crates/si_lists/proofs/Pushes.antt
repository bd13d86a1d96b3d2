-- Lists with one more element at their end, and folds over them.
use Rattle.std.proofs.Common.{◌≡◌, ◌⊎◌, inl, inr, List, [], ◌∷◌, ◌++◌, refl, ap, append_assoc, append-nil}
use Rattle.std.specs.List.{Contains, fold}
use Rattle.std.proofs.lemmas.List.Elements.{Contains-append_left, Contains-append_right, Contains-append_cases}
use Rattle.si_lists.proofs.Members.{here, Contains-one}

-- an element of a list with one more at its end
pub push_cases : {X : Type 0} (xs : List X) (x y : X) → Contains (xs ++ x ∷ []) y → Contains xs y ⊎ (x ≡ y)
push_cases xs x y c = elim (Contains-append_cases xs (x ∷ []) y c) [ inl d ↦ inl d | inr d ↦ inr (Contains-one x y d) ]

pub push_last : {X : Type 0} (xs : List X) (x : X) → Contains (xs ++ x ∷ []) x
push_last xs x = Contains-append_right xs (x ∷ []) x (here x [])

pub push_keeps : {X : Type 0} (xs : List X) (x y : X) → Contains xs y → Contains (xs ++ x ∷ []) y
push_keeps xs x y c = Contains-append_left xs (x ∷ []) y c

-- a fold over more, where a fact of what is done so far is kept
pub fold_keeps : {X B : Type 0} (F : List X → B → Type 0) (f : B → X → B) → ((done : List X) (x : X) (b : B) → F done b → F (done ++ x ∷ []) (f b x)) → (done rest : List X) (b : B) → F done b → F (done ++ rest) (fold f b rest)
fold_keeps F f step done [] b h = rw append-nil h
fold_keeps F f step done (x ∷ rest) b h = rw (← append_assoc done (x ∷ []) rest) (fold_keeps F f step (done ++ x ∷ []) rest (f b x) (step done x b h))

pub fold_push : {X B : Type 0} (f : B → X → B) (b : B) (xs : List X) (x : X) → fold f b (xs ++ x ∷ []) ≡ f (fold f b xs) x
fold_push f b [] x = refl
fold_push f b (y ∷ xs) x = fold_push f (f b y) xs x

-- a list is empty, or has a last element
pub last_cases : {X : Type 0} (xs : List X) → (xs ≡ []) ⊎ ((ys : List X) × (y : X) × (xs ≡ ys ++ y ∷ []))
last_cases [] = inl refl
last_cases (x ∷ xs) = inr (elim (last_cases xs) [
  | inl e ↦ ([], x, ap (λ ys. x ∷ ys) e)
  | inr r ↦ (x ∷ r.0, r.1, ap (λ ys. x ∷ ys) r.2)
])
