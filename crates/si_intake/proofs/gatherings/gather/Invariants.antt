use Rattle.std.proofs.Common.{◌≡◌, ◌++◌}
use Rattle.std.specs.Arc.{arc_value}
use Rattle.crossbeam_queue.specs.Passes.{view, IsPassOf}
use Rattle.si_intake.specs.Ends.{all_put}
use Rattle.si_intake.specs.Views.{accepter_view}
use Rattle.si_intake.proofs.gatherings.gather.Given as goal

abbrev pub invariant-loop-end : goal.invariant-loop-end
invariant-loop-end l =
    (l.fn.ends.items ≡ l.yielded ++ l.end-iterator.rest.items)
    × IsPassOf (arc_value l.shared).queue l.place
    × (l.place.table_id ≡ l.fn.accepter.intake)
    × (view l.place ≡ accepter_view l.fn.accepter.sources l.fn.accepter.taken (all_put l.yielded))
