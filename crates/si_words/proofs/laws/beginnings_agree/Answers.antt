use Rattle.si_words.proofs.Shared.{agree}
use Rattle.si_words.proofs.laws.beginnings_agree.Goals as goal

pub returns : goal.returns
returns c = agree
