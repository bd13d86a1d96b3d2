use Rattle.std.proofs.Common.{◌∙◌, ap}
use Rattle.si_sorted.specs.Entries.{value_at}
use Rattle.si_model.specs.Findings.{overlap_with}
use Rattle.si_judge.specs.Mending.{stamp_cmp, with_kind}
use Rattle.si_judge.proofs.judgements.Judgements.judge_pair.Goals as goal

pub returns-clause-overlaps : goal.returns-clause-overlaps
returns-clause-overlaps g c = λ M is d. c.in_ok-judge_neighbours.ensures.overlaps d
    ∙ ap (λ n. with_kind (value_at stamp_cmp c.args.self.now.overlaps) c.args.first.commit (overlap_with g.J.Judge.rules c.args.first n) d) (c.next_after-next.ensures M is)
