use Rattle.std.specs.Ordering.{eq_by_cmp}
use Rattle.si_judge.specs.Indexes.{write_at}
use Rattle.si_judge.specs.Values.{at_value, value_cmp}
use Rattle.si_judge.proofs.Passes.{writes_put_in}
use Rattle.si_judge.proofs.maps.insert_writes.Goals as goal

pub loop-placed-preserved : goal.loop-placed-preserved
loop-placed-preserved c =
    let T = c.args.part.now in
    writes_put_in (eq_by_cmp value_cmp) (at_value c.args.map.now) (at_value c.loop-placed.map) (at_value c.insert_other.new.map) (write_at T) T.accesses c.loop-placed.placed-index c.write_at.result
    (c.as_slice-placed-items.result.now, _, c.as_slice-placed-items.ensures, c.loop-placed-test.true, c.write_at.ensures) c.loop-placed.invariant c.in_ok-insert_other.ensures
