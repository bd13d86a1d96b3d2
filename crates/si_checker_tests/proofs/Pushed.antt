-- A push keeps what holds of each element, whether or not it found memory.
use Rattle.std.proofs.Common.{◌≡◌, Bool, true, false, cond, List, [], ◌∷◌, ◌++◌, All}
use Rattle.std.proofs.lemmas.List.Elements.{All-push, All-same}

pub All-pushed : {X : Type 0} (P : X → Type 0) (xs ys : List X) (x : X) (went : Bool) → ys ≡ cond went (xs ++ x ∷ []) xs → All P xs → P x → All P ys
All-pushed P xs ys x true is all one = All-same P ys (xs ++ x ∷ []) is (All-push P xs x all one)
All-pushed P xs ys x false is all one = All-same P ys xs is all
