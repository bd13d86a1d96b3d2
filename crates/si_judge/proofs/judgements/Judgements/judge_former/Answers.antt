use Rattle.std.proofs.Common.{◌∙◌, Some, ap, ap₂}
use Rattle.si_sorted.specs.Entries.{value_at}
use Rattle.si_model.specs.Findings.{overlap_with}
use Rattle.si_timeline.specs.Timelines.{Dated}
use Rattle.si_judge.specs.Mending.{stamp_cmp, with_kind}
use Rattle.si_judge.proofs.Neighbours.{former_then}
use Rattle.si_judge.proofs.judgements.Judgements.judge_former.Goals as goal

pub returns-in_ok-judge_neighbours-clause-overlaps : goal.returns-in_ok-judge_neighbours-clause-overlaps
returns-in_ok-judge_neighbours-clause-overlaps g c = λ M is.
    let J = g.J.Judge.rules in
    let ix = c.args.indexes.now in
    let b : Dated = (c.in-Some.former, c.in-Some.first) in
    let d : Dated = (c.args.commit, c.args.version) in
    let old = value_at stamp_cmp c.args.self.now.overlaps in
    let near = c.in-Some.ensures in
    let next = ap Some c.installer.ensures ∙ former_then ix is b d near c.requires in (
      Some b,
      near,
      λ s. c.in_ok-judge_neighbours.ensures.overlaps s
          ∙ ap₂ (λ f n. with_kind old f.commit (overlap_with J f n) s) c.installer-in-Some.ensures next,
    )
