use Rattle.std.proofs.Common.{subst}
use Rattle.si_model.specs.History.{IsHistory}
use Rattle.si_evidence.proofs.indexed.Indexed.is_history.Goals as goal

pub returns : goal.returns
returns c = subst IsHistory c.self.view_is (c.present_is_history.ensures c.self.inside.book.now.journal c.journal-journal.ensures.accepted)
