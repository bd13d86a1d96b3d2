use Rattle.std.proofs.Common.{◌∙◌, sym, ap, subst, Some}
use Rattle.std.specs.BTreeMap.{is_at}
use Rattle.std.specs.List.Sorted.{IsStrictlySortedBy}
use Rattle.std.specs.Map.{keys_of, lookup}
use Rattle.si_sorted.specs.Places.{IsGapFor, IsPlaceOf}
use Rattle.si_sorted.proofs.Edits.{found_at_place, kept_at_gap, none_at_gap, removed_at_place}
use Rattle.si_sorted.proofs.Rising.{none_left, rising_left}
use Rattle.si_sorted.proofs.flat.remove_from.Goals as goal

pub returns-in-Ok-clause-value : goal.returns-in-Ok-clause-value
returns-in-Ok-clause-value g c =
    let place = subst (λ es. IsPlaceOf g.K.Ord.cmp es c.args.key c.in-Ok.place) c.as_slice.ensures.value c.in-Ok.ensures in
    ap (λ e. Some e.1) c.remove.ensures.value ∙ sym (found_at_place g.K.Ord.cmp c.args.key c.args.entries.now.items c.in-Ok.place c.remove.result place)

pub returns-in-Ok-clause-entries : goal.returns-in-Ok-clause-entries
returns-in-Ok-clause-entries g c =
    let place = subst (λ es. IsPlaceOf g.K.Ord.cmp es c.args.key c.in-Ok.place) c.as_slice.ensures.value c.in-Ok.ensures in
    c.remove.ensures.items ∙ removed_at_place g.K.Ord.cmp c.args.key c.args.entries.now.items c.in-Ok.place place

pub returns-in-Err-clause-value : goal.returns-in-Err-clause-value
returns-in-Err-clause-value g c =
    let gap = subst (λ es. IsGapFor g.K.Ord.cmp es c.args.key c.in-Err.field-0) c.as_slice.ensures.value c.in-Err.ensures in
    sym (none_at_gap g.K.Ord.cmp c.args.key c.args.entries.now.items c.in-Err.field-0 gap)

pub returns-in-Err-clause-entries : goal.returns-in-Err-clause-entries
returns-in-Err-clause-entries g c =
    let gap = subst (λ es. IsGapFor g.K.Ord.cmp es c.args.key c.in-Err.field-0) c.as_slice.ensures.value c.in-Err.ensures in
    kept_at_gap g.K.Ord.cmp c.args.key c.args.entries.now.items c.in-Err.field-0 gap

pub returns-in-Ok-clause-rising : goal.returns-in-Ok-clause-rising
returns-in-Ok-clause-rising g c =
    subst (λ es. IsStrictlySortedBy g.K.Ord.cmp (keys_of es)) (sym (returns-in-Ok-clause-entries g c))
    (rising_left g.met.K.Ord.total (is_at (g.K.Ord.cmp c.args.key)) c.args.entries.now.items c.requires)

pub returns-in-Ok-clause-gone : goal.returns-in-Ok-clause-gone
returns-in-Ok-clause-gone g c =
    ap (lookup (is_at (g.K.Ord.cmp c.args.key))) (returns-in-Ok-clause-entries g c) ∙ none_left g.met.K.Ord.total c.args.key c.args.entries.now.items c.requires

pub returns-in-Err-clause-gone : goal.returns-in-Err-clause-gone
returns-in-Err-clause-gone g c = sym (returns-in-Err-clause-value g c)
