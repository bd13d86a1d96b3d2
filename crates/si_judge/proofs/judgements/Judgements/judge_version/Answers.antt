use Rattle.std.proofs.Common.{subst, sym}
use Rattle.si_sorted.specs.Entries.{value_at}
use Rattle.si_judge.specs.Mending.{IsPairJudged, IsVersionJudged, stamp_cmp}
use Rattle.si_judge.proofs.Counts.{rises_on}
use Rattle.si_judge.proofs.judgements.Judgements.judge_version.Goals as goal

pub returns-in_ok-judge_pair-clause-overlaps : goal.returns-in_ok-judge_pair-clause-overlaps
returns-in_ok-judge_pair-clause-overlaps g c = λ M is.
    let pair = subst (λ m. IsPairJudged g.J.Judge.rules M m (value_at stamp_cmp c.judge_former.new.self.overlaps) (value_at stamp_cmp c.judge_pair.new.self.overlaps))
    c.installer.ensures (c.in_ok-judge_pair.ensures.overlaps M is) in
    subst (λ v. IsVersionJudged g.J.Judge.rules M c.args.indexes.now v (value_at stamp_cmp c.args.self.now.overlaps) (value_at stamp_cmp c.judge_pair.new.self.overlaps)) (sym c.in-Some.is)
    (value_at stamp_cmp c.judge_former.new.self.overlaps, c.in_ok-judge_former.ensures.overlaps M is, pair)

pub returns-in_ok-judge_pair-clause-counted : goal.returns-in_ok-judge_pair-clause-counted
returns-in_ok-judge_pair-clause-counted g c = rises_on 1 1 (g.J.Judge.answers c.args.self.now.judge) (g.J.Judge.answers c.judge_former.new.self.judge) (g.J.Judge.answers c.judge_pair.new.self.judge)
    c.in_ok-judge_former.ensures.counted c.in_ok-judge_pair.ensures.counted
