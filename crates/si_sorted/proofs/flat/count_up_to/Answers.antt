use Rattle.si_sorted.proofs.Search.{none_up_to_place, none_up_to_gap, below_past_place}
use Rattle.si_sorted.proofs.flat.count_up_to.Goals as goal

pub returns-in-Ok-clause-none : goal.returns-in-Ok-clause-none
returns-in-Ok-clause-none g c = none_up_to_place g.K.Ord.cmp c.args.entries.now c.args.key c.in-Ok.place c.in-Ok.ensures

pub returns-in-Ok-clause-below : goal.returns-in-Ok-clause-below
returns-in-Ok-clause-below g c = below_past_place g.K.Ord.cmp c.args.entries.now c.args.key c.in-Ok.place c.in-Ok.ensures

pub returns-in-Err-clause-none : goal.returns-in-Err-clause-none
returns-in-Err-clause-none g c = none_up_to_gap g.K.Ord.cmp c.args.entries.now c.args.key c.in-Err.place c.in-Err.ensures
