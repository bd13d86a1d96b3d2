use Rattle.std.proofs.Common.{◌≡◌}
use Rattle.crossbeam_queue.specs.Passes.{view, IsPassOf}
use Rattle.si_intake.proofs.hand_over.HandOver.take_at_last.Given as goal

abbrev pub invariant-loop : goal.invariant-loop
invariant-loop g l = IsPassOf l.self.queue l.place × (l.place.table_id ≡ l.fn.place.table_id) × (view l.place ≡ view l.fn.place)
