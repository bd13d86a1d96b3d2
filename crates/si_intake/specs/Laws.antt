-- What the definitions come to. Each is the contract of a public function of `laws` with an empty body.
use Rattle.std.specs.Prelude.{◌≡◌, ℕ, ◌||◌, List, [], ◌∷◌, ◌++◌}
use Rattle.si_intake.specs.declared.items.Item.{Item}
use Rattle.si_intake.specs.Ends.{Accepting, new_ends, AreAllEndsOf}
use Rattle.si_intake.specs.Items.{has_last, of_source}
use Rattle.si_intake.specs.Interleavings.{IsInterleaving}

abbrev pub SourcesAppend : Type 0
SourcesAppend = (source : ℕ) (xs ys : List Item) → of_source source (xs ++ ys) ≡ of_source source xs ++ of_source source ys

abbrev pub LastsAppend : Type 0
LastsAppend = (xs ys : List Item) → has_last (xs ++ ys) ≡ (has_last xs || has_last ys)

-- with one source there is one interleaving
abbrev pub LoneSourceIsWhole : Type 0
LoneSourceIsWhole = (taken own : List Item) → IsInterleaving taken (own ∷ []) → taken ≡ own

-- the ends of an opening are all ends
abbrev pub NewEndsAreAll : Type 0
NewEndsAreAll = (accepter : Accepting) → AreAllEndsOf accepter (new_ends accepter.intake accepter.sources)
