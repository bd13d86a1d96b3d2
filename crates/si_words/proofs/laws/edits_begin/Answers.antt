use Rattle.si_words.proofs.Edits.{edits_begin}
use Rattle.si_words.proofs.laws.edits_begin.Goals as goal

pub returns : goal.returns
returns c = edits_begin
