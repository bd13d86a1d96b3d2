use Rattle.si_core.proofs.Applications.{journal_stays}
use Rattle.si_core.proofs.laws.journal_stays.Goals as goal

pub returns : goal.returns
returns c = journal_stays
