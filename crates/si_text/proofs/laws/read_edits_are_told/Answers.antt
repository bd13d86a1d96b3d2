use Rattle.si_text.proofs.ToldEdits.{read_told}
use Rattle.si_text.proofs.laws.read_edits_are_told.Goals as goal

pub returns : goal.returns
returns c = read_told
