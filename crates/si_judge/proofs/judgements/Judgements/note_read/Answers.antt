use Rattle.std.proofs.Common.{OnOk, subst}
use Rattle.si_judge.specs.Notes.{IsNoted}
use Rattle.si_judge.proofs.judgements.Judgements.note_read.Goals as goal

pub returns-clause-noted : goal.returns-clause-noted
returns-clause-noted g c = subst (λ o. OnOk c.note.result (IsNoted o c.args.kind c.args.self.now.notes c.note.new.self.notes)) c.get-former.ensures c.note.ensures.noted
