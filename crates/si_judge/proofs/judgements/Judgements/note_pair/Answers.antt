use Rattle.std.proofs.Common.{OnOk, subst}
use Rattle.std.specs.Option.{option_map}
use Rattle.si_judge.specs.Found.{overlap_of}
use Rattle.si_judge.specs.Notes.{IsNoted}
use Rattle.si_judge.proofs.judgements.Judgements.note_pair.Goals as goal

pub returns-clause-noted : goal.returns-clause-noted
returns-clause-noted g c = subst (λ o. OnOk c.note.result (IsNoted o (option_map overlap_of c.args.pair) c.args.self.now.notes c.note.new.self.notes)) c.get-former.ensures
    (subst (λ o. OnOk c.note.result (IsNoted c.get-former.result o c.args.self.now.notes c.note.new.self.notes)) c.kind_of.ensures c.note.ensures.noted)
