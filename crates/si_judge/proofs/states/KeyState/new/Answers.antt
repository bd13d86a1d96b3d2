use Rattle.std.proofs.Common.{false, sym}
use Rattle.si_judge.specs.Following.{empty_key}
use Rattle.si_judge.specs.Kept.{Shows}
use Rattle.si_judge.proofs.Bare.{empty_bare}
use Rattle.si_judge.proofs.Beside.{beside_is, shows_beside}
use Rattle.si_judge.proofs.Following.{nothing_of_history}
use Rattle.si_judge.proofs.states.KeyState.new.Goals as goal

shown : (g : _) (c : goal.After-new-2 g) → Shows g.J.Judge.rules empty_key c.new.result
shown g c = c.new.ensures.shows empty_key nothing_of_history.of_history empty_bare

pub invariant_of-result : goal.invariant_of-result
invariant_of-result g c = λ e. shows_beside g.J.Judge.rules empty_key c.new.result c.new-2.result (shown g c) c.new-2.ensures

pub returns : goal.returns
returns g c = λ i. record {
  key = c.new.ensures.key i;
  present = sym (beside_is g.J.Judge.rules empty_key c.new.result c.new-2.result (shown g c) c.new-2.ensures) i;
  judged = c.new.ensures.judged i;
  spoiled = false;
}
