use Rattle.std.proofs.Common.{List, subst}
use Rattle.std.specs.List.{flat_map, enumerate_from}
use Rattle.std.proofs.lemmas.List.{take_all}
use Rattle.si_model.specs.declared.transactions.Txn.{Txn}
use Rattle.si_chances.specs.Groups.{AddsSlots, slots_in}
use Rattle.si_chances.proofs.ByKey.{adds_none, adds_more, groups_from_none}
use Rattle.si_chances.proofs.grouping.groups_of.Goals as goal

pub loop-number-init : goal.loop-number-init
loop-number-init c = adds_none c.with_hasher-groups.result

pub loop-number-preserved : goal.loop-number-preserved
loop-number-preserved c =
    adds_more slots_in c.args.txns.now c.loop-number.number c.index-txns-number.result c.with_hasher-groups.result c.loop-number.groups c.add_txn.new.groups
    c.loop-number-test.true c.index-txns-number.is c.loop-number.invariant c.in_ok-add_txn.ensures

pub returns : goal.returns
returns c =
    groups_from_none c.args.txns.now c.with_hasher-groups.result c.loop-number.groups c.with_hasher-groups.ensures.empty
    (subst (λ (ts : List Txn). AddsSlots (λ x. flat_map (slots_in x) (enumerate_from 0 ts)) c.with_hasher-groups.result c.loop-number.groups) (take_all c.loop-number.number c.args.txns.now c.loop-number-test.false) c.loop-number.invariant)
