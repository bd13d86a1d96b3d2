use Rattle.si_chances.proofs.Returned.{IsFound}
use Rattle.si_chances.proofs.values.add_returned.Given as goal

abbrev pub invariant-loop-placed : goal.invariant-loop-placed
invariant-loop-placed l = IsFound l.part l.last l.fn.found.items l.placed-index l.wrote l.found.items
