use Rattle.si_words.proofs.Shared.{in_order}
use Rattle.si_words.proofs.laws.entries_stay_in_order.Goals as goal

pub returns : goal.returns
returns c = in_order
