use Rattle.std.proofs.Common.{sym, ap, ◌∙◌, nat_eq}
use Rattle.std.specs.List.{list_any}
use Rattle.std.proofs.lemmas.List.{take_all}
use Rattle.std.proofs.lemmas.List.Sorted.{list_any-IsPermutation}
use Rattle.si_chances.specs.Values.{returns_other}
use Rattle.si_chances.proofs.Walking.{rise_item}
use Rattle.si_chances.proofs.Returned.{values_more, values_same}
use Rattle.si_chances.proofs.values.returned.Goals as goal
use Rattle.si_chances.proofs.values.returned.Goals.{then-is_committed+in_ok-add_returned, else-is_committed}

pub add_returned-requires-clause-rise : goal.add_returned-requires-clause-rise
add_returned-requires-clause-rise c = rise_item c.args.parts.now c.loop-part.part-index c.part-item.result c.requires c.loop-part-test.true c.part-item.is

pub loop-part-preserved : goal.loop-part-preserved
loop-part-preserved c =
    let more = values_more c.args.parts.now c.loop-part.part-index c.part-item.result c.loop-part.found.items c.if-is_committed.found.items c.loop-part-test.true c.part-item.is c.loop-part.invariant in
    elim c.if-is_committed.branch [
      | then-is_committed+in_ok-add_returned w ↦ more (rw w.found-is w.in_ok-add_returned.ensures)
      | else-is_committed w ↦ more (rw w.found-is (values_same c.part-item.result c.loop-part.found.items (sym c.is_committed.ensures ∙ w.if-is_committed.false)))
    ]

pub returns-clause-values : goal.returns-clause-values
returns-clause-values c = λ v.
    sym (list_any-IsPermutation (λ m. nat_eq m v.0) c.loop-part.found.items c.sort_unstable.new.self.items c.sort_unstable.ensures.permutation)
    ∙ c.loop-part.invariant v ∙ ap (list_any (returns_other v)) (take_all c.loop-part.part-index c.args.parts.now c.loop-part-test.false)
