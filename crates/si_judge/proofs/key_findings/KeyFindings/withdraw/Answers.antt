use Rattle.std.proofs.Common.{subst, sym}
use Rattle.std.specs.List.{Contains}
use Rattle.si_model.specs.declared.parts.OnKey.{OnKey}
use Rattle.si_model.specs.KeyEdits.{withdrawn_on}
use Rattle.si_model.specs.History.{IsOfHistory}
use Rattle.si_judge.specs.Kept.{IsShown, Shows}
use Rattle.si_judge.specs.Mending.{found_by}
use Rattle.si_judge.specs.States.{AreSameOnKey}
use Rattle.si_judge.specs.Touched.{IsTouched}
use Rattle.si_judge.proofs.Asked.{left_same, withdrawal_joins}
use Rattle.si_judge.proofs.Mendings.{withdrawn}
use Rattle.si_judge.proofs.key_findings.KeyFindings.withdraw.Goals as goal

pub take_out-requires : goal.take_out-requires
take_out-requires g c =
    let asked = subst (λ s. (M : OnKey) × Shows g.J.Judge.rules M s × Contains M.parts c.args.part.now) (sym c.self.view_is) c.requires in
    (asked.0, asked.1.indexes, asked.2)

pub returns-clause-ok : goal.returns-clause-ok
returns-clause-ok g c =
    let J = g.J.Judge.rules in
    let T = c.args.part.now in
    let ix = c.take_out.new.self in
    let m = c.drop_out.new.judgements in
    let old = found_by g.J.Judge.answers c.self.inside.judgements in
    let new = found_by g.J.Judge.answers c.drop_out.new.judgements in
    subst (λ s. (M R : OnKey) → Shows J M s → Contains M.parts T → AreSameOnKey (withdrawn_on T.id M) R → IsOfHistory R → IsShown J (IsTouched M R T.id) R s
    (record { key = c.self.inside.key; indexes = ix; reads = m.reads; overlaps = m.overlaps; judged = new.answers; marks = c.self.inside.marks; notes = m.notes })) c.self.view_is
    (λ M R shows there same history.
    let joins = left_same T (withdrawn_on T.id M) R M (withdrawal_joins T M shows.indexes.history there) same in
    let is = c.in_ok-taken.ensures.indexes M R shows.indexes joins history in
    let whole = withdrawn J ix T M old new is shows.indexes.history joins shows.right (c.in_ok-drop_out.ensures R is) in
    record { shows = record { indexes = is; right = whole.right }; judged = whole.bound })
