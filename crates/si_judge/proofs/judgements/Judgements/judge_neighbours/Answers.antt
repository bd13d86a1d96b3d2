use Rattle.std.proofs.Common.{◌∙◌, ap₂, cond}
use Rattle.std.specs.Ordering.{eq_by_cmp}
use Rattle.si_sorted.specs.Entries.{value_at}
use Rattle.si_judge.specs.Mending.{stamp_cmp}
use Rattle.si_judge.proofs.judgements.Judgements.judge_neighbours.Goals as goal

pub returns-clause-overlaps : goal.returns-clause-overlaps
returns-clause-overlaps g c = λ d. c.in_ok-put_pair.ensures.overlaps d
    ∙ ap₂ (λ k m. cond (eq_by_cmp stamp_cmp c.args.first.commit d) k (value_at stamp_cmp m d)) c.overlap_with-pair.ensures.overlap c.overlap_with-pair.ensures.overlaps
