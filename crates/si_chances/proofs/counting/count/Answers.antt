use Rattle.std.proofs.Common.{ℕ, ◌≤◌, List, arith, length, ap, sym, ◌∙◌, take}
use Rattle.std.specs.HashMap.{keys}
use Rattle.std.specs.Map.Iter.{deref_pair}
use Rattle.std.specs.Option.{option_map}
use Rattle.std.proofs.lemmas.List.{take_all}
use Rattle.std.proofs.lemmas.Map.Entries.{length-keys_of}
use Rattle.si_model.specs.Parts.{parts}
use Rattle.si_model.specs.declared.chances.Chances.{Chances}
use Rattle.si_model.specs.declared.parts.OnKey.{OnKey}
use Rattle.si_chances.specs.declared.on_keys.Places.{Places}
use Rattle.si_chances.specs.Counts.{chances_in, chances_with}
use Rattle.si_chances.specs.OnKeys.{on, places_on}
use Rattle.si_chances.proofs.ByKey.{slots_there}
use Rattle.si_chances.proofs.Totals.{all_on, all_on_more, chances_all, chances_more}
use Rattle.si_chances.proofs.counting.count.Goals as goal

pub places_at-requires-clause-slots : goal.places_at-requires-clause-slots
places_at-requires-clause-slots c =
    let m = c.args.groups.now in
    let u = c.unwrap.result in
    let at = sym c.get_index.ensures.entry ∙ ap (option_map deref_pair) c.unwrap.ensures in
    (u.0.now, c.deref.ensures.value ∙ slots_there c.args.txns.now m c.loop-place.place u.0.now u.1.now c.requires.groups c.len-place-end.ensures.unique at)

pub loop-place-preserved : goal.loop-place-preserved
loop-place-preserved c =
    let m = c.args.groups.now in
    let txns = c.args.txns.now in
    let i = c.loop-place.place in
    let u = c.unwrap.result in
    let x = u.0.now in
    let at = sym c.get_index.ensures.entry ∙ ap (option_map deref_pair) c.unwrap.ensures in
    let slots = c.deref.ensures.value ∙ slots_there txns m i x u.1.now c.requires.groups c.len-place-end.ensures.unique at in
    let q : OnKey = on (parts x txns) in
    c.in_ok-chances.ensures ∙ ap (λ (p : Places). chances_with p c.loop-place.chances) (c.in_ok-places_at.ensures x slots)
    ∙ ap (λ (d : Chances). chances_with (places_on q) d) c.loop-place.invariant ∙ chances_more (all_on txns (take i (keys m))) q ∙ ap chances_in (sym (all_on_more txns m i x u.1.now at))

pub returns : goal.returns
returns c = λ initial.
    let m = c.args.groups.now in
    let txns = c.args.txns.now in
    let long : length (keys m) ≤ c.loop-place.place = omega (arith, length-keys_of m.entries, c.len-place-end.ensures.len) in
    c.loop-place.invariant ∙ ap (λ (ks : List (List ℕ)). chances_in (all_on txns ks)) (take_all c.loop-place.place (keys m) long) ∙ chances_all txns m initial c.requires.groups c.len-place-end.ensures.unique
