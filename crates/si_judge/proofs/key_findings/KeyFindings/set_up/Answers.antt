use Rattle.std.proofs.Common.{◌≡◌, ◌∙◌, ◌++◌, None, Some, ap, length, subst}
use Rattle.si_sorted.specs.Entries.{value_at}
use Rattle.si_model.specs.declared.numbers.Stamp.{Stamp}
use Rattle.si_model.specs.declared.parts.OnKey.{OnKey}
use Rattle.si_model.specs.KeyEdits.{set_up_on}
use Rattle.si_model.specs.History.{IsOfHistory}
use Rattle.si_judge.specs.Indexes.{kept_reads_in}
use Rattle.si_judge.specs.Kept.{IsShown, Shows}
use Rattle.si_judge.specs.Mending.{AreReadsJudged, found_by, risen, stamp_cmp}
use Rattle.si_judge.specs.Touched.{IsTouchedBySetUp}
use Rattle.si_judge.proofs.SetUps.{bound_set_up, indexes_set_up, right_set_up, set_up_in}
use Rattle.si_judge.proofs.key_findings.KeyFindings.set_up.Goals as goal

module _ (g : _) (c : goal.After-drop-reads-2 g) where
  -- what was judged
  reads_are : c.as_slice.result.now ≡ kept_reads_in (set_up_in c.args.value c.self.inside.indexes) None None ++ kept_reads_in (set_up_in c.args.value c.self.inside.indexes) (Some c.args.value) None
  reads_are = c.as_slice.ensures.value ∙ c.in_ok-add_reads-2.ensures
      ∙ ap (λ l. l ++ kept_reads_in (set_up_in c.args.value c.self.inside.indexes) (Some c.args.value) None)
      (c.in_ok-add_reads.ensures ∙ ap (λ l. l ++ kept_reads_in (set_up_in c.args.value c.self.inside.indexes) None None) c.new-reads.ensures.items)

pub returns-clause-ok : goal.returns-clause-ok
returns-clause-ok g c =
    let J = g.J.Judge.rules in
    let v = c.args.value in
    let ix = c.self.inside.indexes in
    let m = c.judge_reads.new.self in
    let old = found_by g.J.Judge.answers c.self.inside.judgements in
    let new = found_by g.J.Judge.answers m in
    subst (λ s. (M : OnKey) → Shows J M s → M.initial ≡ None → IsOfHistory (set_up_on v M) → IsShown J (IsTouchedBySetUp (set_up_on v M) v) (set_up_on v M) s
    (record { key = c.self.inside.key; indexes = set_up_in v ix; reads = m.reads; overlaps = m.overlaps; judged = new.answers; marks = c.self.inside.marks; notes = m.notes })) c.self.view_is
    (λ M shows unset history.
    let is = indexes_set_up v ix shows.indexes history in
    let judged = subst (λ l. AreReadsJudged J (set_up_on v M) (set_up_in v ix) l old.reads new.reads) (reads_are g c) (c.in_ok-judge_reads.ensures.reads (set_up_on v M) is) in
    let same = λ (d : Stamp). ap (λ m. value_at stamp_cmp m d) c.in_ok-judge_reads.ensures.overlaps in
    let counted = subst (λ l. new.answers ≡ risen old.answers (length l)) (reads_are g c) c.in_ok-judge_reads.ensures.counted in
    record {
      shows = record { indexes = is; right = right_set_up J ix shows.indexes v unset history old new shows.right judged same counted };
      judged = bound_set_up J ix shows.indexes v unset history old new shows.right judged same counted;
    })
