use Rattle.si_words.proofs.Edits.{edits_append}
use Rattle.si_words.proofs.laws.edits_append.Goals as goal

pub returns : goal.returns
returns c = edits_append
