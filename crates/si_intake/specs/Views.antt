-- What the passes know, and what a step makes of it.
use Rattle.std.specs.Prelude.{ℕ, ◌+◌, true, false, List, [], ◌∷◌, ◌++◌}
use Rattle.si_intake.specs.declared.items.Item.{Item}
use Rattle.si_intake.specs.declared.views.View.{View}

abbrev pub source_view : ℕ → List Item → View
source_view source put = record { sends = true; from = source; put = put; gets = false; got = []; made = 0; known = [] }

abbrev pub accepter_view : ℕ → List Item → List (List Item) → View
accepter_view sources taken known = record { sends = false; from = 0; put = []; gets = true; got = taken; made = sources; known = known }

abbrev pub spent_view : View
spent_view = record { sends = false; from = 0; put = []; gets = false; got = []; made = 0; known = [] }

abbrev pub with_put : Item → View → View
with_put item v = record v { put = v.put ++ item ∷ [] }

abbrev pub with_got : Item → View → View
with_got item v = record v { got = v.got ++ item ∷ [] }

-- the accepter's view with one source more, and that source's

abbrev pub one_more : View → View
one_more v = record v { made = v.made + 1 }

abbrev pub next_source : View → View
next_source v = source_view v.made []

-- the accepter's view, with what the next source has put
abbrev pub with_known : List Item → View → View
with_known put v = record v { known = v.known ++ put ∷ [] }
