use Rattle.std.proofs.Common.{ap, sym, ◌∙◌, nat_lt}
use Rattle.std.proofs.lemmas.Bool.{lt-ltb, le-ltb}
use Rattle.si_model.specs.Chances.{is_write_access, writes_key}
use Rattle.si_chances.proofs.Walking.{any_counted}
use Rattle.si_chances.proofs.EachKind.{last_left, last_taken}
use Rattle.si_chances.proofs.on_keys.last_installer.Goals as goal
use Rattle.si_chances.proofs.on_keys.last_installer.Goals.{then-summary_of-gt0, else-summary_of-gt0}

pub loop-part-preserved : goal.loop-part-preserved
loop-part-preserved c =
    let T = c.part-item.result in
    let counted = any_counted (λ a. is_write_access a.access) T.accesses ∙ ap (nat_lt 0) (sym c.summary_of.ensures.writes) in
    elim c.if-summary_of-gt0.branch [
      | then-summary_of-gt0 w ↦ rw w.last-is (last_taken writes_key c.args.parts.now c.loop-part.part-index T _ _ c.loop-part-test.true c.part-item.is c.loop-part.invariant
          (counted ∙ lt-ltb 0 c.summary_of.result.writes w.if-summary_of-gt0.true) w.later-last.ensures)
      | else-summary_of-gt0 w ↦ rw w.last-is (last_left writes_key c.args.parts.now c.loop-part.part-index T _ c.loop-part-test.true c.part-item.is c.loop-part.invariant
          (counted ∙ le-ltb 0 c.summary_of.result.writes w.if-summary_of-gt0.false))
    ]
