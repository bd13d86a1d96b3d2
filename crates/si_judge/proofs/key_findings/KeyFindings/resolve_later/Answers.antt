use Rattle.std.proofs.Common.{subst, sym}
use Rattle.si_model.specs.declared.parts.OnKey.{OnKey}
use Rattle.si_model.specs.Edits.{status_after}
use Rattle.si_model.specs.KeyEdits.{resolved_on, withdrawn_on}
use Rattle.si_model.specs.History.{IsOfHistory}
use Rattle.si_judge.specs.Indexes.{Fits, Joins}
use Rattle.si_judge.specs.Kept.{IsInDoubt, WouldShow}
use Rattle.si_judge.specs.Marks.{IsComeLater}
use Rattle.si_judge.specs.Mending.{found_by}
use Rattle.si_judge.specs.States.{AreSameOnKey}
use Rattle.si_judge.proofs.Asked.{joined_same, resolution_joins, withdrawal_history, withdrawal_joins}
use Rattle.si_judge.proofs.Waitings.{resolved_later}
use Rattle.si_judge.proofs.key_findings.KeyFindings.resolve_later.Goals as goal

pub take_out-requires : goal.take_out-requires
take_out-requires g c =
    let T = c.args.part.now in
    let asked = subst (λ s. (M : OnKey) × WouldShow g.J.Judge.rules M s × IsInDoubt T M × IsOfHistory (resolved_on T.id c.args.outcome M)) (sym c.self.view_is) c.requires in
    (asked.0, asked.1.indexes, asked.2.part)

pub add_later-requires : goal.add_later-requires
add_later-requires g c =
    let T = c.args.part.now in
    let o = c.args.outcome in
    let asked = subst (λ s. (M : OnKey) × WouldShow g.J.Judge.rules M s × IsInDoubt T M × IsOfHistory (resolved_on T.id o M)) (sym c.self.view_is) c.requires in
    let M = asked.0 in
    let history = asked.1.indexes.history in
    let rest = withdrawn_on T.id M in
    let left = withdrawal_joins T M history asked.2.part in
    let is = c.in_ok-take_out.ensures.indexes M rest asked.1.indexes left (withdrawal_history T.id M history) in
    (rest, is, subst (λ s. Fits (record T { status = s }) rest) (sym c.status-resolved.ensures) (resolved_on T.id o M, resolution_joins T o rest M left, asked.3))

pub returns-clause-ok : goal.returns-clause-ok
returns-clause-ok g c =
    let J = g.J.Judge.rules in
    let T = c.args.part.now in
    let o = c.args.outcome in
    let ix = c.take_out.new.self in
    let new_ix = c.add_later.new.indexes in
    let m = c.add_later.new.judgements in
    let more = c.add_later.new.marks in
    let old = found_by g.J.Judge.answers c.self.inside.judgements in
    let new = found_by g.J.Judge.answers m in
    subst (λ s. (M R : OnKey) → WouldShow J M s → IsInDoubt T M → AreSameOnKey (resolved_on T.id o M) R → IsOfHistory R → WouldShow J R
    (record { key = c.self.inside.key; indexes = new_ix; reads = m.reads; overlaps = m.overlaps; judged = new.answers; marks = more; notes = m.notes })) c.self.view_is
    (λ M R would doubt same history.
    let before = would.indexes.history in
    let rest = withdrawn_on T.id M in
    let left = withdrawal_joins T M before doubt.part in
    let is = c.in_ok-take_out.ensures.indexes M rest would.indexes left (withdrawal_history T.id M before) in
    let joins = joined_same (record T { status = status_after o }) rest (resolved_on T.id o M) R (resolution_joins T o rest M left) same in
    let is_new = c.in_ok-add_later.ensures.indexes rest R is (subst (λ s. Joins (record T { status = s }) rest R) (sym c.status-resolved.ensures) joins) history in
    let later = subst (λ s. IsComeLater J (record T { status = s }) R ix new_ix c.self.inside.marks more old new) c.status-resolved.ensures (c.in_ok-add_later.ensures.judged R is_new) in
    let waits = resolved_later J ix new_ix T o M old new c.self.inside.marks more is is_new before left doubt.doubt joins would.reads would.overlaps later in
    record { indexes = is_new; reads = waits.reads; overlaps = waits.overlaps })
