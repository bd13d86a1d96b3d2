use Rattle.si_sorted.proofs.Moves.{none_moved_at_place}
use Rattle.si_sorted.proofs.flat.moved_by.Goals as goal

pub returns-in-Ok : goal.returns-in-Ok
returns-in-Ok g c = none_moved_at_place g.K.Ord.cmp c.args.key c.args.entries.now c.in-Ok.field-0 c.in-Ok.ensures
