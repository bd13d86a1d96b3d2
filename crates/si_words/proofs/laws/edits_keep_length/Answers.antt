use Rattle.si_words.proofs.Edits.{edits_keep_length}
use Rattle.si_words.proofs.laws.edits_keep_length.Goals as goal

pub returns : goal.returns
returns c = edits_keep_length
