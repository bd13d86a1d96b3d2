use Rattle.std.proofs.Common.{◌≡◌, false}
use Rattle.si_intake.specs.Items.{has_last}
use Rattle.si_program_tests.proofs.tests.intakes.put_all.Given as goal

abbrev pub invariant-loop-place : goal.invariant-loop-place
invariant-loop-place g l =
    (has_last l.end.put ≡ false)
    × (l.end.intake ≡ l.fn.end.intake)
    × (l.end.source ≡ l.fn.end.source)
    × (l.source ≡ l.fn.end.source)
