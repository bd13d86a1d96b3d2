use Rattle.std.proofs.Common.{◌∙◌, ◌+◌, sym, ap, arith, rules}
use Rattle.std.proofs.lemmas.Bool.{eqb-true}
use Rattle.si_text.specs.Inputs.{items_after}
use Rattle.si_evidence.specs.Judging.{logged_through}
use Rattle.si_evidence.proofs.InTurn.{all_logged, logged_next}
use Rattle.si_evidence.proofs.logs.read_log.Goals as goal

pub lines-preserved : goal.lines-preserved
lines-preserved c =
    let at = c.lines.invariant in
    let line = c.split_line.result.0.now in
    let more = c.split_line.result.1.now in
    let few = c.in_ok-take_line.ensures.few in
    let shorter = c.split_line.ensures.shorter in (
      at.0 ∙ logged_next c.lines.log c.lines.number c.lines.rest.now line more c.split_line.ensures.lines ∙ ap (λ l. logged_through l (items_after (c.lines.number + 1) more)) (sym c.in_ok-take_line.ensures.ok),
      omega (arith, few, at.1),
      omega (arith, shorter, at.2),
    )

pub returns : goal.returns
returns c = sym (c.lines.invariant.0 ∙ all_logged c.lines.log c.lines.number c.lines.rest.now (eqb-true _ _ (sym c.is_empty.ensures ∙ c.lines-test.false)))
