use Rattle.std.proofs.Common.{◌∙◌, length, subst, sym}
use Rattle.si_sorted.specs.Entries.{value_at}
use Rattle.si_judge.specs.Indexes.{version_by}
use Rattle.si_judge.specs.Mending.{AreForgotten, AreReadsJudged, IsVersionForgotten, RisesBy, read_cmp, stamp_cmp}
use Rattle.si_judge.proofs.Counts.{rises, rises_on}
use Rattle.si_judge.proofs.key_findings.leave.Goals as goal

pub returns-clause-judged : goal.returns-clause-judged
returns-clause-judged g c = λ R is.
    let J = g.J.Judge.rules in
    let count = g.J.Judge.answers in
    let T = c.args.part.now in
    let ix = c.args.indexes.now in
    let m0 = c.args.judgements.now in
    let m1 = c.forget_reads.new.self in
    let m2 = c.judge_reads.new.self in
    let m3 = c.forget_version.new.self in
    let overlaps = c.in_ok-judge_reads.ensures.overlaps ∙ c.in_ok-forget_reads.ensures.overlaps in
    let first = rises (count m1.judge) (length c.args.others.now) (count m2.judge) c.in_ok-judge_reads.ensures.counted in
    record {
      middle = value_at read_cmp m1.reads;
      own_forgotten = subst (λ l. AreForgotten l (value_at read_cmp m0.reads) (value_at read_cmp m1.reads)) c.requires c.in_ok-forget_reads.ensures.reads;
      others_judged = subst (λ m. AreReadsJudged J R ix c.args.others.now (value_at read_cmp m1.reads) (value_at read_cmp m)) (sym c.in_ok-forget_version.ensures.reads)
          (c.in_ok-judge_reads.ensures.reads R is);
      version = subst (λ m. IsVersionForgotten J R ix (version_by T) (value_at stamp_cmp m) (value_at stamp_cmp m3.overlaps)) overlaps
          (subst (λ v. IsVersionForgotten J R ix v (value_at stamp_cmp m2.overlaps) (value_at stamp_cmp m3.overlaps)) c.version_by-version.ensures (c.in_ok-forget_version.ensures.overlaps R is));
      counted = rises_on (length c.args.others.now) 2 (count m0.judge) (count m2.judge) (count m3.judge)
          (subst (λ j. RisesBy (length c.args.others.now) (count j) (count m2.judge)) c.in_ok-forget_reads.ensures.judge first) c.in_ok-forget_version.ensures.counted;
    }
