use Rattle.std.proofs.Common.{subst}
use Rattle.si_timeline.specs.Timelines.{ValuesRise}
use Rattle.si_judge.proofs.versions.Versions.keeps_rising.Goals as goal

pub returns-then-is_above_last : goal.returns-then-is_above_last
returns-then-is_above_last c = λ told. c.is_above_last.ensures c.if-is_above_last.true (subst ValuesRise c.self.view_is (c.self.invariant.0 c.if-not-self.false))

pub returns-then-is_above_former : goal.returns-then-is_above_former
returns-then-is_above_former c = λ told.
    let rise = subst ValuesRise c.self.view_is (c.self.invariant.0 c.if-not-self.false) in
    (rise, c.is_above_former.ensures c.if-is_above_former.true rise, c.is_below_next.ensures told rise)
