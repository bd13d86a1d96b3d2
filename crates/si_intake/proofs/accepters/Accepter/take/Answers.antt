use Rattle.std.proofs.Common.{refl, subst, arith}
use Rattle.si_intake.specs.Ends.{AllEnded}
use Rattle.si_intake.proofs.Endings.{counted_all}
use Rattle.si_intake.proofs.accepters.Accepter.take.Goals as goal

pub returns-then-self-eq0-clause-end : goal.returns-then-self-eq0-clause-end
returns-then-self-eq0-clause-end g c =
    let count = c.self.invariant.2 in
    let none = c.if-self-eq0.true in
    ((λ _. subst AllEnded c.self.view_is (counted_all _ _ (omega arith))), λ _. refl)
