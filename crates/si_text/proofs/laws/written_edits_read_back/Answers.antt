use Rattle.si_text.proofs.WrittenLines.{read_back}
use Rattle.si_text.proofs.laws.written_edits_read_back.Goals as goal

pub returns : goal.returns
returns c = read_back
