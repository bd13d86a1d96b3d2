use Rattle.std.proofs.Common.{◌≡◌, [], None, Some, ap, subst}
use Rattle.si_model.specs.declared.numbers.Stamp.{Stamp}
use Rattle.si_model.specs.declared.parts.OnKey.{OnKey}
use Rattle.si_model.specs.KeyEdits.{set_up_on}
use Rattle.si_model.specs.History.{IsOfHistory}
use Rattle.si_sorted.specs.Entries.{value_at}
use Rattle.si_judge.specs.Indexes.{kept_reads_in}
use Rattle.si_judge.specs.Kept.{WouldShow}
use Rattle.si_judge.specs.Marks.{AreGathered}
use Rattle.si_judge.specs.Mending.{AreReadsJudged, found_by, stamp_cmp}
use Rattle.si_judge.proofs.MarkLists.{gathered_more}
use Rattle.si_judge.proofs.SetUps.{indexes_set_up, set_up_in}
use Rattle.si_judge.proofs.Waitings.{set_up_waits}
use Rattle.si_judge.proofs.key_findings.KeyFindings.set_up_later.Goals as goal

pub returns-clause-ok : goal.returns-clause-ok
returns-clause-ok g c =
    let J = g.J.Judge.rules in
    let v = c.args.value in
    let ix = c.self.inside.indexes in
    let m = c.judge_reads.new.self in
    let old = found_by g.J.Judge.answers c.self.inside.judgements in
    let new = found_by g.J.Judge.answers m in
    let marks = c.self.inside.marks in
    let more = c.gather-2.new.marks in
    let first = subst (λ l. AreGathered (kept_reads_in (set_up_in v ix) None None) marks c.gather.new.marks l c.gather.new.reads.items) c.new-reads.ensures.items c.in_ok-gather.ensures in
    let both = gathered_more (kept_reads_in (set_up_in v ix) None None) (kept_reads_in (set_up_in v ix) (Some v) None) marks c.gather.new.marks more [] c.gather.new.reads.items c.gather-2.new.reads.items
    first c.in_ok-gather-2.ensures in
    subst (λ s. (M : OnKey) → WouldShow J M s → M.initial ≡ None → IsOfHistory (set_up_on v M) → WouldShow J (set_up_on v M)
    (record { key = c.self.inside.key; indexes = set_up_in v ix; reads = m.reads; overlaps = m.overlaps; judged = new.answers; marks = more; notes = m.notes })) c.self.view_is
    (λ M would unset history.
    let is = indexes_set_up v ix would.indexes history in
    let judged = subst (λ l. AreReadsJudged J (set_up_on v M) (set_up_in v ix) l old.reads new.reads) c.as_slice.ensures.value (c.in_ok-judge_reads.ensures.reads (set_up_on v M) is) in
    let same = λ (d : Stamp). ap (λ m. value_at stamp_cmp m d) c.in_ok-judge_reads.ensures.overlaps in
    let waits = set_up_waits J ix would.indexes v unset history old new marks more c.gather-2.new.reads.items both would.reads would.overlaps judged same in
    record { indexes = is; reads = waits.reads; overlaps = waits.overlaps })
