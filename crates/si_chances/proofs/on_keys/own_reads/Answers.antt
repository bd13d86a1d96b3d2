use Rattle.std.proofs.Common.{◌+◌, ap, ◌∙◌, sym, get_or}
use Rattle.std.proofs.lemmas.List.Sums.{sum_by_more}
use Rattle.si_model.specs.declared.parts.Part.{Part}
use Rattle.si_chances.specs.Summaries.{own_reads}
use Rattle.si_chances.proofs.on_keys.own_reads.Goals as goal

pub loop-part-preserved : goal.loop-part-preserved
loop-part-preserved c =
    let T = c.part-item.result in
    let parts = c.args.parts.now in
    let i = c.loop-part.part-index in
    c.in_ok-count.ensures ∙ ap (λ n. c.loop-part.count + n) (c.summary_of.ensures.own ∙ ap (λ (U : Part). own_reads U) c.part-item.is) ∙ ap (λ n. n + own_reads (get_or parts i T)) c.loop-part.invariant
    ∙ sym (sum_by_more own_reads parts i T c.loop-part-test.true)
