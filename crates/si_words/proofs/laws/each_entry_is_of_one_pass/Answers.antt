use Rattle.si_words.proofs.Shared.{one_pass_each}
use Rattle.si_words.proofs.laws.each_entry_is_of_one_pass.Goals as goal

pub returns : goal.returns
returns c = one_pass_each
