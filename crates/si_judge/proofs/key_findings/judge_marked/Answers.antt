use Rattle.std.proofs.Common.{◌∙◌}
use Rattle.si_sorted.specs.Entries.{value_at}
use Rattle.si_judge.specs.Mending.{read_cmp}
use Rattle.si_judge.proofs.Passes.{range_judged}
use Rattle.si_judge.proofs.key_findings.judge_marked.Goals as goal

pub loop-mark-preserved : goal.loop-mark-preserved
loop-mark-preserved g c =
    let w = c.loop-mark.invariant in
    let one = c.in_ok-judge_range.ensures in (
      (λ M is. range_judged g.J.Judge.rules M c.args.indexes.now (value_at read_cmp c.args.judgements.now.reads) (value_at read_cmp c.loop-mark.judgements.reads) (value_at read_cmp c.judge_range.new.judgements.reads)
          c.args.marks.now c.loop-mark.mark-index _ c.loop-mark-test.true (w.0 M is) (one.reads M is)),
      one.overlaps ∙ w.1,
      λ k n had. one.noted k n (w.2 k n had),
    )
