-- The ends of an intake as contracts see them.
use Rattle.std.specs.Prelude.{◌≡◌, ℕ, zero, suc, ◌<◌, List, [], ◌∷◌, ◌++◌, length, map, slice_index_or}
use Rattle.atomic_table.specs.Seated.{TableId}
use Rattle.si_intake.specs.declared.items.Item.{Item}
use Rattle.si_intake.specs.Items.{HaveAllEnded}

-- a source's end: which intake it is of, the source's number, and what it has put
pub record Putting : Type 0 where
  pub intake : TableId
  pub source : ℕ
  pub put : List Item

-- the accepter: which intake it is of, how many sources that has, and what was taken
pub record Accepting : Type 0 where
  pub intake : TableId
  pub sources : ℕ
  pub taken : List Item

-- what went through an intake: what was taken, and what each source has put
pub record Passed : Type 0 where
  pub taken : List Item
  pub put : List (List Item)

-- an end that has put nothing
abbrev pub new_end : TableId → ℕ → Putting
new_end intake source = record { intake = intake; source = source; put = [] }

-- those of the first n sources, in the order of their numbers
abbrev pub new_ends : TableId → ℕ → List Putting
new_ends intake zero = []
new_ends intake (suc n) = new_ends intake n ++ new_end intake n ∷ []

-- what each end has put
abbrev pub all_put : List Putting → List (List Item)
all_put ends = map (λ e. e.put) ends

-- they are the ends of all sources of this accepter's intake, in the order of their numbers
abbrev pub AreAllEndsOf : Accepting → List Putting → Type 0
AreAllEndsOf accepter ends =
    (length ends ≡ accepter.sources)
    × ((k : ℕ) (d : Putting) → k < length ends → ((slice_index_or ends k d).intake ≡ accepter.intake) × ((slice_index_or ends k d).source ≡ k))

-- the last item of each source was taken
abbrev pub AllEnded : Accepting → Type 0
AllEnded accepter = HaveAllEnded accepter.sources accepter.taken
