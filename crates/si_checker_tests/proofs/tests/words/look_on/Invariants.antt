use Rattle.std.proofs.Common.{◌≡◌, ◌<◌}
use Rattle.si_checker_tests.proofs.tests.words.look_on.Given as goal

abbrev pub invariant-loop : goal.invariant-loop
invariant-loop l = (l.pass.table ≡ l.words.table) × (0 < l.words.shards)
