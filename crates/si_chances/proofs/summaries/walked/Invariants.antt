use Rattle.si_chances.proofs.Walking.{IsWalked}
use Rattle.si_chances.proofs.summaries.walked.Given as goal

abbrev pub invariant-loop-placed : goal.invariant-loop-placed
invariant-loop-placed l = IsWalked l.accesses l.placed-index l.own l.free l.writes l.last
