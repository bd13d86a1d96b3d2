use Rattle.si_words.proofs.Shared.{known_once}
use Rattle.si_words.proofs.laws.no_part_is_shared.Goals as goal

pub returns : goal.returns
returns c = known_once
