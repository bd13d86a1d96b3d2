use Rattle.std.proofs.Common.{◌∙◌, sym, ap, subst, set, Some}
use Rattle.si_sorted.specs.Places.{IsGapFor, IsPlaceOf}
use Rattle.si_sorted.proofs.Edits.{found_at_place, none_at_gap, set_at_place}
use Rattle.si_sorted.proofs.flat.replace_in.Goals as goal

pub returns-in-Ok-clause-value : goal.returns-in-Ok-clause-value
returns-in-Ok-clause-value g c =
    let place = subst (λ es. IsPlaceOf g.K.Ord.cmp es c.args.key c.in-Ok.place) c.as_slice.ensures.value c.in-Ok.ensures in
    ap (λ e. Some e.1) c.index.ensures ∙ sym (found_at_place g.K.Ord.cmp c.args.key c.args.entries.now.items c.in-Ok.place c.index.result.now place)

pub returns-in-Ok-clause-entries : goal.returns-in-Ok-clause-entries
returns-in-Ok-clause-entries g c =
    let place = subst (λ es. IsPlaceOf g.K.Ord.cmp es c.args.key c.in-Ok.place) c.as_slice.ensures.value c.in-Ok.ensures in
    ap (λ e. set c.args.entries.now.items c.in-Ok.place (e.0, c.args.value)) c.index.ensures
    ∙ set_at_place g.K.Ord.cmp c.args.key c.args.value c.args.entries.now.items c.in-Ok.place c.index.result.now place

pub returns-in-Err-clause-value : goal.returns-in-Err-clause-value
returns-in-Err-clause-value g c =
    let gap = subst (λ es. IsGapFor g.K.Ord.cmp es c.args.key c.in-Err.field-0) c.as_slice.ensures.value c.in-Err.ensures in
    sym (none_at_gap g.K.Ord.cmp c.args.key c.args.entries.now.items c.in-Err.field-0 gap)
