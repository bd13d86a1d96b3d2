use Rattle.std.proofs.Common.{subst, sym}
use Rattle.si_sorted.specs.Entries.{value_at}
use Rattle.si_judge.specs.Mending.{IsVersionForgotten, stamp_cmp}
use Rattle.si_judge.proofs.judgements.Judgements.forget_version.Goals as goal

pub returns-in_ok-judge_pair_before-clause-overlaps : goal.returns-in_ok-judge_pair_before-clause-overlaps
returns-in_ok-judge_pair_before-clause-overlaps g c = λ M is.
    subst (λ v. IsVersionForgotten g.J.Judge.rules M c.args.indexes.now v (value_at stamp_cmp c.args.self.now.overlaps) (value_at stamp_cmp c.judge_pair_before.new.self.overlaps)) (sym c.in-Some.is)
    (value_at stamp_cmp c.forget_pair.new.self.overlaps, c.in_ok-forget_pair.ensures.overlaps, c.in_ok-judge_pair_before.ensures.overlaps M is)
