use Rattle.std.proofs.Common.{◌∙◌, sym}
use Rattle.si_program_tests.proofs.tests.intakes.put_and_take.Goals as goal

pub returns-clause-all : goal.returns-clause-all
returns-clause-all g c =
    let all = c.join.ensures.first c.args.accepter c.requires.all in
    let same = c.join.ensures.second in
    (all.0 ∙ sym same.2, λ k d within. ((all.1 k d within).0 ∙ sym same.1, (all.1 k d within).1))
