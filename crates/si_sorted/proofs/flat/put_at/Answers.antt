use Rattle.std.proofs.Common.{◌∙◌, sym, ap, subst, set}
use Rattle.std.specs.List.Sorted.{IsStrictlySortedBy}
use Rattle.std.specs.Map.{keys_of}
use Rattle.std.specs.Result.{MatchResult}
use Rattle.si_sorted.specs.Places.{IsGapFor, IsPlaceOf}
use Rattle.si_sorted.proofs.Edits.{insert_at_gap, set_at_place}
use Rattle.si_sorted.proofs.Rising.{rising_inserted}
use Rattle.si_sorted.proofs.flat.put_at.Goals as goal

pub returns-in-Ok-clause-ok : goal.returns-in-Ok-clause-ok
returns-in-Ok-clause-ok g c =
    let items = c.args.entries.now.items in
    let place : IsPlaceOf g.K.Ord.cmp items c.args.key c.in-Ok.place = subst (λ r. MatchResult r (IsPlaceOf g.K.Ord.cmp items c.args.key) (IsGapFor g.K.Ord.cmp items c.args.key)) c.in-Ok.is c.requires.place in
    ap (λ e. set items c.in-Ok.place (e.0, c.args.value)) c.index.ensures
    ∙ set_at_place g.K.Ord.cmp c.args.key c.args.value items c.in-Ok.place c.index.result.now place

pub returns-in_ok-insert-in-Err-clause-ok : goal.returns-in_ok-insert-in-Err-clause-ok
returns-in_ok-insert-in-Err-clause-ok g c =
    let items = c.args.entries.now.items in
    let gap : IsGapFor g.K.Ord.cmp items c.args.key c.in-Err.place = subst (λ r. MatchResult r (IsPlaceOf g.K.Ord.cmp items c.args.key) (IsGapFor g.K.Ord.cmp items c.args.key)) c.in-Err.is c.requires.place in
    c.in_ok-insert-in-Err.ensures.items ∙ insert_at_gap g.K.Ord.cmp c.args.key c.args.value items c.in-Err.place gap

pub returns-in-Ok-clause-rising : goal.returns-in-Ok-clause-rising
returns-in-Ok-clause-rising g c =
    subst (λ es. IsStrictlySortedBy g.K.Ord.cmp (keys_of es)) (sym (returns-in-Ok-clause-ok g c))
    (rising_inserted g.met.K.Ord.total c.args.key c.args.value c.args.entries.now.items c.requires.rising)

pub returns-in_ok-insert-in-Err-clause-rising : goal.returns-in_ok-insert-in-Err-clause-rising
returns-in_ok-insert-in-Err-clause-rising g c =
    subst (λ es. IsStrictlySortedBy g.K.Ord.cmp (keys_of es)) (sym (returns-in_ok-insert-in-Err-clause-ok g c))
    (rising_inserted g.met.K.Ord.total c.args.key c.args.value c.args.entries.now.items c.requires.rising)
