use Rattle.std.proofs.Common.{◌∙◌, ◌++◌, ap, subst}
use Rattle.si_sorted.specs.Entries.{value_at}
use Rattle.si_judge.specs.Indexes.{kept_reads_in}
use Rattle.si_judge.specs.Mending.{AreReadsJudged, read_cmp}
use Rattle.si_judge.proofs.key_findings.judge_range.Goals as goal

pub returns-clause-reads : goal.returns-clause-reads
returns-clause-reads g c = λ M is.
    let ix = c.args.indexes.now in
    let all = c.as_slice.ensures.value ∙ c.in_ok-add_reads.ensures ∙ ap (λ l. l ++ kept_reads_in ix c.args.mark.0 c.args.mark.1) c.new-reads.ensures.items in
    subst (λ l. AreReadsJudged g.J.Judge.rules M ix l (value_at read_cmp c.args.judgements.now.reads) (value_at read_cmp c.judge_reads.new.self.reads)) all (c.in_ok-judge_reads.ensures.reads M is)
