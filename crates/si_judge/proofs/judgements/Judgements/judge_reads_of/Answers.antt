use Rattle.std.proofs.Common.{◌∙◌}
use Rattle.si_sorted.specs.Entries.{value_at}
use Rattle.si_judge.specs.Indexes.{read_at}
use Rattle.si_judge.specs.Mending.{read_cmp}
use Rattle.si_judge.proofs.Passes.{own_grows, reads_counted, reads_judged}
use Rattle.si_judge.proofs.judgements.Judgements.judge_reads_of.Goals as goal

pub loop-placed-preserved : goal.loop-placed-preserved
loop-placed-preserved g c =
    let T = c.args.part.now in
    let i = c.loop-placed.placed-index in
    let items = c.as_slice-placed-items in
    let count = g.J.Judge.answers in
    let w = c.loop-placed.invariant in
    let one = c.in_ok-judge_if.ensures in (
      own_grows T.accesses i c.loop-placed.own c.written.result c.or-own.result w.0 (items.result.now, _, items.ensures, c.loop-placed-test.true, c.written.ensures) c.or-own.ensures,
      (λ M is. reads_judged g.J.Judge.rules M c.args.indexes.now (value_at read_cmp c.args.self.now.reads) (value_at read_cmp c.loop-placed.self.reads) (value_at read_cmp c.judge_if.new.self.reads) (read_at T) T.accesses i c.read_at.result
          (items.result.now, _, items.ensures, c.loop-placed-test.true, c.read_at.ensures) (w.1 M is) (one.reads M is)),
      one.overlaps ∙ w.2,
      reads_counted (read_at T) T.accesses i c.read_at.result (count c.args.self.now.judge) (count c.loop-placed.self.judge) (count c.judge_if.new.self.judge)
          (items.result.now, _, items.ensures, c.loop-placed-test.true, c.read_at.ensures) w.3 one.counted,
      λ k n had. one.noted k n (w.4 k n had),
    )
