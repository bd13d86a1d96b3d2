use Rattle.si_model.proofs.ReadPlaces.{own_change, aborted_change, intermediate_change, future_change}
use Rattle.si_model.proofs.Returning.{returning_history}
use Rattle.si_model.proofs.Committing.{overlap_change}
use Rattle.si_model.proofs.Losing.{losing_history, stale_change}
use Rattle.si_model.proofs.laws.chances_are_changes.Goals as goal

pub returns : goal.returns
returns c = record {
  returns = returning_history;
  loses = losing_history;
  own = own_change;
  aborted = aborted_change;
  intermediate = intermediate_change;
  future = future_change;
  stale = stale_change;
  overlap = overlap_change;
}
