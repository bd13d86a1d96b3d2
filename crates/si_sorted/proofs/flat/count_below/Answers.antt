use Rattle.si_sorted.proofs.Search.{none_from_place, none_from_gap}
use Rattle.si_sorted.proofs.flat.count_below.Goals as goal

pub returns-in-Ok-clause-none : goal.returns-in-Ok-clause-none
returns-in-Ok-clause-none g c = none_from_place g.K.Ord.cmp c.args.entries.now c.args.key c.in-Ok.place c.in-Ok.ensures

pub returns-in-Err-clause-none : goal.returns-in-Err-clause-none
returns-in-Err-clause-none g c = none_from_gap g.K.Ord.cmp c.args.entries.now c.args.key c.in-Err.place c.in-Err.ensures
