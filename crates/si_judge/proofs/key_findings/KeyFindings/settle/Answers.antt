use Rattle.std.proofs.Common.{◌∙◌, ◌++◌, ap, subst, sym}
use Rattle.std.specs.List.{flat_map}
use Rattle.si_model.specs.declared.parts.OnKey.{OnKey}
use Rattle.si_sorted.specs.Entries.{value_at}
use Rattle.si_judge.specs.Indexes.{kept_reads_in}
use Rattle.si_judge.specs.Kept.{Shows, WouldShow}
use Rattle.si_judge.specs.Mending.{ArePairKinds, AreReadsJudged, found_by, stamp_cmp}
use Rattle.si_judge.proofs.MarkLists.{settled}
use Rattle.si_judge.proofs.key_findings.KeyFindings.settle.Goals as goal

pub returns-clause-ok : goal.returns-clause-ok
returns-clause-ok g c =
    let J = g.J.Judge.rules in
    let ix = c.self.inside.indexes in
    let m = c.judge_marked.new.judgements in
    let old = found_by g.J.Judge.answers c.self.inside.judgements in
    let new = found_by g.J.Judge.answers m in
    let all = c.as_slice.ensures.value ∙ c.in_ok-add_to.ensures ∙ ap (λ l. l ++ c.self.inside.marks) c.new-marks.ensures.items in
    subst (λ s. (M : OnKey) → WouldShow J M s → Shows J M (record { key = c.self.inside.key; indexes = ix; reads = m.reads; overlaps = m.overlaps; judged = new.answers; marks = c.new.result; notes = m.notes })) c.self.view_is
    (λ M would.
    let judged = subst (λ l. AreReadsJudged J M ix (flat_map (λ n. kept_reads_in ix n.0 n.1) l) old.reads new.reads) all (c.in_ok-judge_marked.ensures.reads M would.indexes) in
    record {
      indexes = would.indexes;
      right = record {
        reads = settled J ix would.indexes c.self.inside.marks old.reads new.reads would.reads judged;
        overlaps = subst (λ l. ArePairKinds J M (value_at stamp_cmp l)) (sym c.in_ok-judge_marked.ensures.overlaps) would.overlaps;
      };
    })
