use Rattle.si_chances.proofs.Walking.{walked_free, walked_own, walked_write}
use Rattle.si_chances.proofs.summaries.walked.Goals as goal
use Rattle.si_chances.proofs.summaries.walked.Goals.{in-Write, in-Read, in-Read-2}

pub loop-placed-preserved : goal.loop-placed-preserved
loop-placed-preserved c =
    let ys = c.args.accesses.now in
    let i = c.loop-placed.placed-index in
    let k = c.loop-placed.invariant in
    elim c.match-placed.branch [
      | in-Write w ↦ rw (w.own-is, w.free-is, w.writes-is, w.last-is) (walked_write ys i _ _ _ _ _ _ c.requires c.loop-placed-test.true w.in-Write.is k)
      | in-Read w ↦ rw (w.own-is, w.free-is, w.writes-is, w.last-is) (walked_free ys i _ _ _ _ _ _ c.requires c.loop-placed-test.true w.in-Read.is w.if-writes-eq0.true k)
      | in-Read-2 w ↦ rw (w.own-is, w.free-is, w.writes-is, w.last-is) (walked_own ys i _ _ _ _ _ _ c.requires c.loop-placed-test.true w.in-Read.is w.if-writes-eq0.false k)
    ]
