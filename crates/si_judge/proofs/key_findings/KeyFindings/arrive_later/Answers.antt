use Rattle.std.proofs.Common.{subst, sym}
use Rattle.si_model.specs.declared.parts.OnKey.{OnKey}
use Rattle.si_model.specs.KeyEdits.{arrived_on}
use Rattle.si_model.specs.History.{IsOfHistory}
use Rattle.si_judge.specs.Kept.{WouldShow}
use Rattle.si_judge.specs.Mending.{found_by}
use Rattle.si_judge.specs.States.{AreSameOnKey}
use Rattle.si_judge.proofs.Asked.{arrival_joins, joined_same}
use Rattle.si_judge.proofs.Mendings.{arrival_fits}
use Rattle.si_judge.proofs.Waitings.{arrived_later}
use Rattle.si_judge.proofs.key_findings.KeyFindings.arrive_later.Goals as goal

pub add_later-requires : goal.add_later-requires
add_later-requires g c =
    let asked = subst (λ s. (M : OnKey) × WouldShow g.J.Judge.rules M s × IsOfHistory (arrived_on c.args.part.now M)) (sym c.self.view_is) c.requires in
    (asked.0, asked.1.indexes, arrival_fits c.args.part.now asked.0 asked.2)

pub returns-clause-ok : goal.returns-clause-ok
returns-clause-ok g c =
    let J = g.J.Judge.rules in
    let T = c.args.part.now in
    let m = c.add_later.new.judgements in
    let old = found_by g.J.Judge.answers c.self.inside.judgements in
    let new = found_by g.J.Judge.answers m in
    subst (λ s. (M R : OnKey) → WouldShow J M s → IsOfHistory (arrived_on T M) → AreSameOnKey (arrived_on T M) R → IsOfHistory R → WouldShow J R
    (record { key = c.self.inside.key; indexes = c.add_later.new.indexes; reads = m.reads; overlaps = m.overlaps; judged = new.answers; marks = c.add_later.new.marks; notes = m.notes })) c.self.view_is
    (λ M R would arrives same history.
    let joins = joined_same T M (arrived_on T M) R (arrival_joins T M arrives) same in
    let is = c.in_ok-add_later.ensures.indexes M R would.indexes joins history in
    let waits = arrived_later J c.self.inside.indexes c.add_later.new.indexes T old new c.self.inside.marks c.add_later.new.marks would.indexes is joins would.reads would.overlaps (c.in_ok-add_later.ensures.judged R is) in
    record { indexes = is; reads = waits.reads; overlaps = waits.overlaps })
