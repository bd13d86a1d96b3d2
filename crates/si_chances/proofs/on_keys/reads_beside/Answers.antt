use Rattle.std.proofs.Common.{◌+◌, ap, ◌∙◌, sym, get_or}
use Rattle.std.proofs.lemmas.List.Sums.{sum_by_more}
use Rattle.si_model.specs.declared.parts.Part.{Part}
use Rattle.si_chances.specs.OnKeys.{reads_beside}
use Rattle.si_chances.proofs.on_keys.reads_beside.Goals as goal

pub loop-part-preserved : goal.loop-part-preserved
loop-part-preserved c =
    let T = c.part-item.result in
    let parts = c.args.parts.now in
    let i = c.loop-part.part-index in
    let n = c.args.places in
    let here = c.reads_of.ensures parts c.requires.history (i, c.loop-part-test.true, sym c.part-item.is) c.requires.spans.counts in
    c.in_ok-count.ensures ∙ ap (λ m. c.loop-part.count + m) (here ∙ ap (λ (U : Part). reads_beside n parts U) c.part-item.is) ∙ ap (λ m. m + reads_beside n parts (get_or parts i T)) c.loop-part.invariant
    ∙ sym (sum_by_more (reads_beside n parts) parts i T c.loop-part-test.true)
