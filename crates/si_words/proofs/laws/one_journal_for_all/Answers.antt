use Rattle.si_words.proofs.Shared.{one_journal}
use Rattle.si_words.proofs.laws.one_journal_for_all.Goals as goal

pub returns : goal.returns
returns c = one_journal
