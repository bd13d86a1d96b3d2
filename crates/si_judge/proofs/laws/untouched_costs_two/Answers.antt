use Rattle.si_judge.proofs.Bounds.{costs_two}
use Rattle.si_judge.proofs.laws.untouched_costs_two.Goals as goal

pub returns : goal.returns
returns c = costs_two
