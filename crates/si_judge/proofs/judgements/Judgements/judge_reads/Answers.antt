use Rattle.std.proofs.Common.{◌∙◌, ap}
use Rattle.si_sorted.specs.Entries.{value_at}
use Rattle.si_judge.specs.Judges.{one_more}
use Rattle.si_judge.specs.Mending.{read_cmp}
use Rattle.si_judge.proofs.Counts.{risen_more}
use Rattle.si_judge.proofs.Passes.{next_judged}
use Rattle.si_judge.proofs.judgements.Judgements.judge_reads.Goals as goal

pub loop-read-preserved : goal.loop-read-preserved
loop-read-preserved g c =
    let w = c.loop-read.invariant in
    let one = c.in_ok-judge_one.ensures in (
      (λ M is. next_judged g.J.Judge.rules M c.args.indexes.now (value_at read_cmp c.args.self.now.reads) (value_at read_cmp c.loop-read.self.reads) (value_at read_cmp c.judge_one.new.self.reads)
          c.args.reads.now c.loop-read.read-index _ c.loop-read-test.true (w.0 M is) (one.reads M is)),
      one.overlaps ∙ w.1,
      one.counted ∙ ap one_more w.2 ∙ risen_more (g.J.Judge.answers c.args.self.now.judge) c.loop-read.read-index 1,
      λ k n had. one.noted k n (w.3 k n had),
    )
