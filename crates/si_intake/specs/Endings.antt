-- How many sources have ended.
use Rattle.std.specs.Prelude.{ℕ, zero, suc, ◌+◌, if◌then◌else◌, List}
use Rattle.si_intake.specs.declared.items.Item.{Item}
use Rattle.si_intake.specs.Items.{has_last, of_source}

-- of the first n sources, those whose last item is among these
abbrev pub ended_below : ℕ → List Item → ℕ
ended_below zero items = 0
ended_below (suc n) items = ended_below n items + (if has_last (of_source n items) then 1 else 0)
