use Rattle.std.proofs.Common.{OnOk, Some, subst, sym}
use Rattle.std.specs.Box.{with_value}
use Rattle.si_judge.specs.Notes.{IsNoted, IsNotedBy}
use Rattle.si_judge.proofs.judgements.Judgements.note.Goals as goal

pub returns-in-Some-clause-noted : goal.returns-in-Some-clause-noted
returns-in-Some-clause-noted g c = subst (λ o. OnOk c.note.result (IsNoted c.args.former c.args.now o (Some (with_value c.in-Some.notes c.note.new.self)))) (sym c.in-Some.is)
    (subst (λ v. OnOk c.note.result (IsNotedBy c.args.former c.args.now v c.note.new.self)) c.deref_mut.ensures.value c.note.ensures)
