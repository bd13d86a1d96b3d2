use Rattle.std.proofs.Common.{◌≡◌, None, take}
use Rattle.std.specs.List.{find}
use Rattle.si_sorted.proofs.finds.find_in.Given as goal

abbrev pub invariant-loop-entry : goal.invariant-loop-entry
invariant-loop-entry g l = find (λ e. g.T.ValueTest.passes l.test e.1) (take l.entry-index l.entries) ≡ None
