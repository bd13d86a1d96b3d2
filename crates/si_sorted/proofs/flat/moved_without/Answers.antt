use Rattle.si_sorted.proofs.Moves.{none_moved_at_gap}
use Rattle.si_sorted.proofs.flat.moved_without.Goals as goal

pub returns-in-Err : goal.returns-in-Err
returns-in-Err g c = none_moved_at_gap g.K.Ord.cmp c.args.key c.args.entries.now c.in-Err.field-0 c.in-Err.ensures
