use Rattle.std.proofs.Common.{◌≤◌, List, ap, ◌∙◌, arith}
use Rattle.std.specs.List.{fold, slice_range}
use Rattle.si_model.specs.declared.parts.Part.{Part}
use Rattle.si_chances.specs.Groups.{with_slot}
use Rattle.si_chances.proofs.Regrouped.{parts_at_more}
use Rattle.si_chances.proofs.regrouping.parts_at.Goals as goal

pub loop-at-preserved : goal.loop-at-preserved
loop-at-preserved c =
    let txns = c.args.txns.now in
    let slots = c.args.slots.now in
    let later : c.loop-at.at ≤ c.min-end.result = omega (arith, c.min-end.ensures, c.loop-at-test.true) in
    record {
      within = omega (arith, c.min-end.ensures);
      parts = c.in_ok-add_all.ensures ∙ ap (λ (ps : List Part). fold (with_slot txns) ps (slice_range slots c.loop-at.at c.min-end.result)) c.loop-at.invariant.parts
          ∙ parts_at_more txns slots c.loop-at.at c.min-end.result later;
    }
