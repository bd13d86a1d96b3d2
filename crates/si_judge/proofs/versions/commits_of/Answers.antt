use Rattle.std.proofs.Common.{◌≡◌, ◌∙◌, ◌++◌, [], List, ap, subst, sym}
use Rattle.si_timeline.specs.Timelines.{Dated}
use Rattle.si_judge.specs.Commits.{HaveValuesOnce}
use Rattle.si_judge.proofs.Commits.{all_walked, none_of, one_more}
use Rattle.si_judge.proofs.versions.commits_of.Goals as goal

-- all that was added to an empty list is walked
whole : (ds none all items : List Dated) → none ≡ [] → all ≡ none ++ ds → items ≡ all → items ≡ ds
whole ds none all items e f g = g ∙ f ∙ ap (λ l. l ++ ds) e

pub loop-dated-init : goal.loop-dated-init
loop-dated-init c = none_of c.new-commits.result c.new-commits.ensures

pub loop-dated-preserved : goal.loop-dated-preserved
loop-dated-preserved c = one_more c.as_slice-dated-items.result.now c.loop-dated.dated-index _ (subst HaveValuesOnce (sym (whole c.args.timeline.now c.new-all.result.items _ c.as_slice-dated-items.result.now c.new-all.ensures.items c.in_ok-add_all.ensures c.as_slice-dated-items.ensures.value)) c.requires)
    c.loop-dated-test.true c.loop-dated.commits c.insert.new.self c.loop-dated.invariant c.in_ok-insert.ensures.sets

pub returns : goal.returns
returns c = all_walked c.args.timeline.now c.as_slice-dated-items.result.now c.loop-dated.dated-index c.loop-dated.commits
    (whole c.args.timeline.now c.new-all.result.items _ c.as_slice-dated-items.result.now c.new-all.ensures.items c.in_ok-add_all.ensures c.as_slice-dated-items.ensures.value)
    c.loop-dated-test.false c.loop-dated.invariant
