use Rattle.std.proofs.Common.{List, subst}
use Rattle.std.proofs.lemmas.List.{take_all}
use Rattle.si_model.specs.declared.parts.Part.{Part}
use Rattle.si_chances.specs.Spans.{CountSpans}
use Rattle.si_chances.proofs.Walking.{rise_item}
use Rattle.si_chances.proofs.Spanning.{spans_more, spans_sorted}
use Rattle.si_chances.proofs.spans.Spans.of.Goals as goal

pub add-requires : goal.add-requires
add-requires c = rise_item c.args.parts.now c.loop-part.part-index c.part-item.result c.requires c.loop-part-test.true c.part-item.is

pub loop-part-preserved : goal.loop-part-preserved
loop-part-preserved c =
    spans_more c.args.places c.args.parts.now c.loop-part.part-index c.part-item.result c.loop-part.spans c.add.new.self c.loop-part-test.true c.part-item.is c.loop-part.invariant c.in_ok-add.ensures

pub returns : goal.returns
returns c = record {
  sorted = record { starts = c.sort_unstable.ensures.sorted; commits = c.sort_unstable-2.ensures.sorted };
  counts = spans_sorted c.args.places c.args.parts.now c.loop-part.spans (record { starts = c.sort_unstable.new.self; commits = c.sort_unstable-2.new.self })
      (subst (λ (ps : List Part). CountSpans c.args.places ps c.loop-part.spans) (take_all c.loop-part.part-index c.args.parts.now c.loop-part-test.false) c.loop-part.invariant)
      c.sort_unstable.ensures.permutation c.sort_unstable-2.ensures.permutation;
}
