use Rattle.std.proofs.Common.{◌∙◌, sym, ap, subst, All}
use Rattle.si_intake.specs.Ends.{AreAllEndsOf, new_ends}
use Rattle.si_program_tests.proofs.Fresh.{IsUnended, fresh}
use Rattle.si_program_tests.proofs.tests.intakes.pass_through.Goals as goal

pub put_and_take-ends-requires-clause-unended : goal.put_and_take-ends-requires-clause-unended
put_and_take-ends-requires-clause-unended g c κs within = subst (All IsUnended) (sym c.in-Ok.ensures.ends) (fresh c.in-Ok.accepter c.args.sources)

pub put_and_take-ends-requires-clause-all : goal.put_and_take-ends-requires-clause-all
put_and_take-ends-requires-clause-all g c κs within =
    let made = c.in-Ok.ensures.ends ∙ ap (λ a. new_ends c.in-Ok.accepter.intake a.sources) (sym c.in-Ok.ensures.accepter) in
    subst (AreAllEndsOf c.in-Ok.accepter) (sym made) (c.new_ends_are_all.ensures c.in-Ok.accepter)
