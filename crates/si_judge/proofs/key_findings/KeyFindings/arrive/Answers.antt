use Rattle.std.proofs.Common.{subst, sym}
use Rattle.si_model.specs.declared.parts.OnKey.{OnKey}
use Rattle.si_model.specs.KeyEdits.{arrived_on}
use Rattle.si_model.specs.History.{IsOfHistory}
use Rattle.si_judge.specs.Kept.{IsShown, Shows}
use Rattle.si_judge.specs.Mending.{found_by}
use Rattle.si_judge.specs.States.{AreSameOnKey}
use Rattle.si_judge.specs.Touched.{IsTouched}
use Rattle.si_judge.proofs.Asked.{arrival_joins, joined_same}
use Rattle.si_judge.proofs.Mendings.{arrival_fits, arrived}
use Rattle.si_judge.proofs.key_findings.KeyFindings.arrive.Goals as goal

pub add-requires : goal.add-requires
add-requires g c =
    let asked = subst (λ s. (M : OnKey) × Shows g.J.Judge.rules M s × IsOfHistory (arrived_on c.args.part.now M)) (sym c.self.view_is) c.requires in
    (asked.0, asked.1.indexes, arrival_fits c.args.part.now asked.0 asked.2)

pub returns-clause-ok : goal.returns-clause-ok
returns-clause-ok g c =
    let J = g.J.Judge.rules in
    let T = c.args.part.now in
    let m = c.add.new.judgements in
    let old = found_by g.J.Judge.answers c.self.inside.judgements in
    let new = found_by g.J.Judge.answers c.add.new.judgements in
    subst (λ s. (M R : OnKey) → Shows J M s → IsOfHistory (arrived_on T M) → AreSameOnKey (arrived_on T M) R → IsOfHistory R → IsShown J (IsTouched M R T.id) R s
    (record { key = c.self.inside.key; indexes = c.add.new.indexes; reads = m.reads; overlaps = m.overlaps; judged = new.answers; marks = c.self.inside.marks; notes = m.notes })) c.self.view_is
    (λ M R shows arrives same history.
    let joins = joined_same T M (arrived_on T M) R (arrival_joins T M arrives) same in
    let is = c.in_ok-add.ensures.indexes M R shows.indexes joins history in
    let whole = arrived J c.self.inside.indexes c.add.new.indexes T old new shows.indexes is joins shows.right (c.in_ok-add.ensures.judged R is) in
    record { shows = record { indexes = is; right = whole.right }; judged = whole.bound })
