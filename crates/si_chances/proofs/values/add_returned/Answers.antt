use Rattle.std.proofs.Common.{subst, length, ◌<◌}
use Rattle.si_model.specs.declared.parts.Placed.{Placed}
use Rattle.std.proofs.Common.{List}
use Rattle.si_chances.proofs.Returned.{found_free, found_late, found_write}
use Rattle.si_chances.proofs.values.add_returned.Goals as goal
use Rattle.si_chances.proofs.values.add_returned.Goals.{in-Write, in-Read+then-not-wrote+in_ok-add_other-in-Read, in-Read+else-not-wrote}

pub loop-placed-preserved : goal.loop-placed-preserved
loop-placed-preserved c =
    let T = c.args.part.now in
    let i = c.loop-placed.placed-index in
    let k = c.loop-placed.invariant in
    let ys = c.as_slice-placed-items.ensures in
    let l = subst (λ (zs : List Placed). i < length zs) ys c.loop-placed-test.true in
    elim c.match-placed.branch [
      | in-Write w ↦ rw (w.wrote-is, w.found-is) (found_write T _ _ i _ _ _ _ l (rw ys at w.in-Write.is) k)
      | in-Read+then-not-wrote+in_ok-add_other-in-Read w ↦ rw (w.wrote-is, w.found-is) (found_free T _ _ i _ _ _ _ _ c.requires.rise l c.requires.committed (rw ys at w.in-Read.is) w.if-not-wrote.true k w.in_ok-add_other-in-Read.ensures)
      | in-Read+else-not-wrote w ↦ rw (w.wrote-is, w.found-is) (found_late T _ _ i _ _ _ _ c.requires.rise l c.requires.committed (rw ys at w.in-Read.is) w.if-not-wrote.false k)
    ]
