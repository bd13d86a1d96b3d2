use Rattle.std.proofs.Common.{List, subst, ◌∙◌}
use Rattle.std.specs.List.{flat_map, enumerate_from}
use Rattle.std.proofs.lemmas.List.{take_all}
use Rattle.si_model.specs.declared.operations.Op.{Op}
use Rattle.si_chances.specs.Groups.{AddsSlots, slots_by}
use Rattle.si_chances.proofs.ByKey.{adds_none, adds_more}
use Rattle.si_chances.proofs.grouping.add_txn.Goals as goal

pub loop-place-init : goal.loop-place-init
loop-place-init c = adds_none c.args.groups.now

pub loop-place-preserved : goal.loop-place-preserved
loop-place-preserved c =
    adds_more (λ x e. slots_by x c.args.number e) c.as_slice-op-items.result.now c.loop-place.place c.op-item.result c.args.groups.now c.loop-place.groups c.add_slot.new.groups
    c.loop-place-test.true c.op-item.is c.loop-place.invariant c.in_ok-add_slot.ensures

pub returns : goal.returns
returns c =
    let ops = take_all c.loop-place.place c.as_slice-op-items.result.now c.loop-place-test.false ∙ c.as_slice-op-items.ensures.items in
    subst (λ (os : List Op). AddsSlots (λ x. flat_map (slots_by x c.args.number) (enumerate_from 0 os)) c.args.groups.now c.loop-place.groups) ops c.loop-place.invariant
