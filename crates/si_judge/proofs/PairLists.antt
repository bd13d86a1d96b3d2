-- Lists whose elements stand pairwise in a relation.
use Rattle.std.proofs.Common.{inl, inr, List, [], ◌∷◌, ◌++◌}
use Rattle.std.specs.List.{AllPairs, Contains}
use Rattle.std.proofs.lemmas.List.Elements.{Contains-append_cases}
use Rattle.si_lists.proofs.Members.{here, there}
use Rattle.si_lists.proofs.Names.{pairs_cons, pairs_head, pairs_nil, pairs_tail}

pub pairs_weaker : {X : Type 0} {R S : X → X → Type 0} (xs : List X) → AllPairs R xs → ((a b : X) → Contains xs a → Contains xs b → R a b → S a b) → AllPairs S xs
pairs_weaker {X} {R} {S} [] p f = pairs_nil S
pairs_weaker {X} {R} {S} (x ∷ xs) p f = pairs_cons S x xs (λ y c. f x y (here x xs) (there x xs y c) (pairs_head R x xs p y c))
    (pairs_weaker xs (pairs_tail R x xs p) (λ a b c d. f a b (there x xs a c) (there x xs b d)))

pub pairs_append : {X : Type 0} {R : X → X → Type 0} (xs ys : List X) → AllPairs R xs → AllPairs R ys → ((a b : X) → Contains xs a → Contains ys b → R a b) → AllPairs R (xs ++ ys)
pairs_append [] ys p q f = q
pairs_append {X} {R} (x ∷ xs) ys p q f = pairs_cons R x (xs ++ ys)
    (λ y c. elim (Contains-append_cases xs ys y c) [ inl l ↦ pairs_head R x xs p y l | inr r ↦ f x y (here x xs) r ])
    (pairs_append xs ys (pairs_tail R x xs p) q (λ a b c. f a b (there x xs a c)))
