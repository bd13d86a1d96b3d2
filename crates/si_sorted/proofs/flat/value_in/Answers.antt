use Rattle.std.proofs.Common.{sym}
use Rattle.si_sorted.proofs.Edits.{found_at_place, none_at_gap}
use Rattle.si_sorted.proofs.flat.value_in.Goals as goal

pub returns-in-Ok : goal.returns-in-Ok
returns-in-Ok g c = sym (found_at_place g.K.Ord.cmp c.args.key c.args.entries.now c.in-Ok.place _ c.in-Ok.ensures)

pub returns-in-Err : goal.returns-in-Err
returns-in-Err g c = sym (none_at_gap g.K.Ord.cmp c.args.key c.args.entries.now _ c.in-Err.ensures)
