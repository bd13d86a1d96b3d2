use Rattle.std.proofs.Common.{◌≡◌, []}
use Rattle.std.specs.Arc.{arc_value}
use Rattle.crossbeam_queue.specs.Passes.{view, IsPassOf}
use Rattle.si_intake.specs.Ends.{new_ends}
use Rattle.si_intake.specs.Views.{accepter_view}
use Rattle.si_intake.proofs.openings.ends_of.Given as goal

abbrev pub invariant-loop-source : goal.invariant-loop-source
invariant-loop-source l =
    IsPassOf (arc_value l.shared).queue l.place
    × (l.place.table_id ≡ l.fn.place.table_id)
    × (view l.place ≡ accepter_view l.source [] [])
    × (l.ends.items ≡ new_ends l.fn.place.table_id l.source)
