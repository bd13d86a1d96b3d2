use Rattle.std.proofs.Common.{sym, subst}
use Rattle.std.specs.List.Sorted.{IsStrictlySortedBy}
use Rattle.std.specs.Map.{keys_of}
use Rattle.si_sorted.specs.Places.{IsGapFor, IsPlaceOf}
use Rattle.si_sorted.proofs.Shifts.{all_from, rising_from, place_shifted, gap_shifted}
use Rattle.si_sorted.proofs.flat.searched_from.Goals as goal

pub searched-requires : goal.searched-requires
searched-requires g c =
    let es = c.args.entries.now in
    subst (λ l. IsStrictlySortedBy g.K.Ord.cmp (keys_of l)) (sym (all_from c.args.low es)) (rising_from g.K.Ord.cmp c.args.low es c.requires.rising)

pub returns-in-Ok : goal.returns-in-Ok
returns-in-Ok g c =
    let es = c.args.entries.now in
    let place = subst (λ l. IsPlaceOf g.K.Ord.cmp l c.args.key c.in-Ok.place) (all_from c.args.low es) c.in-Ok.ensures in
    place_shifted g.K.Ord.cmp es c.args.key c.args.low c.in-Ok.place c.requires.above place

pub returns-in-Err : goal.returns-in-Err
returns-in-Err g c =
    let es = c.args.entries.now in
    let gap = subst (λ l. IsGapFor g.K.Ord.cmp l c.args.key c.in-Err.place) (all_from c.args.low es) c.in-Err.ensures in
    gap_shifted g.K.Ord.cmp es c.args.key c.args.low c.in-Err.place c.requires.bound c.requires.above gap
