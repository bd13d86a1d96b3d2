use Rattle.std.proofs.Common.{◌≡◌}
use Rattle.std.specs.Prelude.{All}
use Rattle.si_checker_tests.proofs.tests.words.issuers_of.Given as goal

abbrev pub invariant-loop : goal.invariant-loop
invariant-loop g l = All (λ p. p.table ≡ l.words.table) l.passes.items × All (λ i. i.pass.table ≡ l.words.table) l.issuers.items
