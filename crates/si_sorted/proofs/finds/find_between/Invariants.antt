use Rattle.std.proofs.Common.{◌≡◌, map}
use Rattle.std.specs.List.{find}
use Rattle.si_sorted.proofs.finds.find_between.Given as goal

abbrev pub invariant-loop-key : goal.invariant-loop-key
invariant-loop-key g l = l.found ≡ find (λ e. g.T.ValueTest.passes l.test e.1) (map (λ p. (p.0.now, p.1.now)) l.yielded)
