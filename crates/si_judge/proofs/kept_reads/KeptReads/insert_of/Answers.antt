use Rattle.std.specs.Ordering.{eq_by_cmp}
use Rattle.si_judge.specs.Indexes.{read_at}
use Rattle.si_judge.specs.KeptReads.{kept_read_cmp, own_at}
use Rattle.si_judge.proofs.Passes.{own_grows, reads_put_in}
use Rattle.si_judge.proofs.kept_reads.KeptReads.insert_of.Goals as goal

pub loop-placed-preserved : goal.loop-placed-preserved
loop-placed-preserved c =
    let T = c.args.part.now in
    let i = c.loop-placed.placed-index in
    let items = c.as_slice-placed-items in
    let w = c.loop-placed.invariant in (
      own_grows T.accesses i c.loop-placed.own c.written.result c.or-own.result w.0 (items.result.now, _, items.ensures, c.loop-placed-test.true, c.written.ensures) c.or-own.ensures,
      reads_put_in (eq_by_cmp kept_read_cmp) (own_at c.args.self.now) (own_at c.loop-placed.self) (own_at c.insert_one.new.self) (read_at T) T.accesses i c.read_at.result
          (items.result.now, _, items.ensures, c.loop-placed-test.true, c.read_at.ensures) w.1 c.in_ok-insert_one.ensures.values,
      (λ o. c.in_ok-insert_one.ensures.ordered (w.2 o)),
    )
