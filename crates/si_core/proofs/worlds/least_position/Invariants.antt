use Rattle.si_core.proofs.Least.{IsLeastBefore}
use Rattle.si_core.proofs.worlds.least_position.Given as goal

abbrev pub invariant-loop-number : goal.invariant-loop-number
invariant-loop-number l = IsLeastBefore l.shards l.number l.least
