use Rattle.std.proofs.Common.{arith, sym}
use Rattle.si_run.proofs.Differences.{verdict_clean, verdict_open, verdict_violation}
use Rattle.si_run.proofs.tolds.Told.verdict.Goals as goal

pub returns-then-self-gt0 : goal.returns-then-self-gt0
returns-then-self-gt0 c = λ found told. sym (verdict_violation found (let some = c.if-self-gt0.true in omega (arith, told.violations, some)))

pub returns-then-self-gt0-2 : goal.returns-then-self-gt0-2
returns-then-self-gt0-2 c = λ found told. sym (verdict_open found (let none = c.if-self-gt0.false in omega (arith, told.violations, none)) (let some = c.if-self-gt0-2.true in omega (arith, told.found, some)))

pub returns-else-self-gt0-2 : goal.returns-else-self-gt0-2
returns-else-self-gt0-2 c = λ found told. sym (verdict_clean found (let none = c.if-self-gt0-2.false in omega (arith, told.found, none)))
