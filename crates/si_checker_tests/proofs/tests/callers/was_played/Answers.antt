use Rattle.std.proofs.Common.{All, sym, subst}
use Rattle.si_checker_tests.proofs.Passes.{IsOf, of_table}
use Rattle.si_checker_tests.proofs.tests.callers.was_played.Goals as goal

pub play_on-requires-clause-own : goal.play_on-requires-clause-own
play_on-requires-clause-own g c κs within =
    let board = c.in-Ok.parts.board in
    subst (All (IsOf board)) (sym c.in-Ok.ensures.seats) (of_table board c.args.counts.0 c.args.counts.1)
