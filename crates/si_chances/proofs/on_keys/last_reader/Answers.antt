use Rattle.std.proofs.Common.{ap, sym, ◌∙◌, nat_lt}
use Rattle.std.specs.List.{list_any}
use Rattle.std.proofs.lemmas.Bool.{lt-ltb, le-ltb}
use Rattle.si_model.specs.declared.parts.Part.{Part}
use Rattle.si_model.specs.Chances.{is_free_read}
use Rattle.si_chances.proofs.Walking.{any_counted}
use Rattle.si_chances.proofs.EachKind.{last_left, last_taken}
use Rattle.si_chances.proofs.on_keys.last_reader.Goals as goal
use Rattle.si_chances.proofs.on_keys.last_reader.Goals.{then-summary_of-gt0, else-summary_of-gt0}

pub loop-part-preserved : goal.loop-part-preserved
loop-part-preserved c =
    let T = c.part-item.result in
    let counted = any_counted (is_free_read T) T.accesses ∙ ap (nat_lt 0) (sym c.summary_of.ensures.free) in
    elim c.if-summary_of-gt0.branch [
      | then-summary_of-gt0 w ↦ rw w.last-is (last_taken (λ (T : Part). list_any (is_free_read T) T.accesses) c.args.parts.now c.loop-part.part-index T _ _ c.loop-part-test.true c.part-item.is c.loop-part.invariant
          (counted ∙ lt-ltb 0 c.summary_of.result.free w.if-summary_of-gt0.true) w.later-last.ensures)
      | else-summary_of-gt0 w ↦ rw w.last-is (last_left (λ (T : Part). list_any (is_free_read T) T.accesses) c.args.parts.now c.loop-part.part-index T _ c.loop-part-test.true c.part-item.is c.loop-part.invariant
          (counted ∙ le-ltb 0 c.summary_of.result.free w.if-summary_of-gt0.false))
    ]
