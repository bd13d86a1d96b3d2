use Rattle.std.proofs.Common.{◌∙◌, ◌+◌, ◌≤◌, Some, arith, ap, cond, length, sym, take}
use Rattle.std.specs.BTreeMap.{get, is_at}
use Rattle.std.proofs.lemmas.List.{length-take, take_all}
use Rattle.std.proofs.lemmas.List.Sums.{count_by-le-length}
use Rattle.si_model.specs.Order.{finding_cmp, finding_eq}
use Rattle.si_shard.specs.KeyNotes.{times_in}
use Rattle.si_shard.proofs.Counting.{counted_next}
use Rattle.si_shard.proofs.merging.count_each.Goals as goal

pub overflow_add-count : goal.overflow_add-count
overflow_add-count c =
    let f = c.finding-item.result in
    let all = c.args.found.now in
    let i = c.loop-finding.finding-index in
    let so = c.times-count.ensures ∙ c.loop-finding.invariant f in
    let few : times_in f (take i all) ≤ length (take i all) = count_by-le-length (finding_eq f) (take i all) in
    omega (arith, so, few, length-take i all)

pub loop-finding-preserved : goal.loop-finding-preserved
loop-finding-preserved c = λ f.
    counted_next c.args.found.now c.loop-finding.finding-index c.finding-item.result f c.times-count.result c.loop-finding.counts c.insert.new.self c.loop-finding-test.true (sym c.finding-item.is) c.times-count.ensures c.loop-finding.invariant
    (c.in_ok-insert.ensures.updates.0 f ∙ ap (λ own. cond (is_at (finding_cmp own) f) (Some (c.times-count.result + 1)) (get finding_cmp c.loop-finding.counts f)) c.in_ok-try_clone.ensures)

pub returns : goal.returns
returns c = λ f.
    let all : length c.args.found.now ≤ c.loop-finding.finding-index = c.loop-finding-test.false in
    c.loop-finding.invariant f ∙ ap (times_in f) (take_all c.loop-finding.finding-index c.args.found.now all)
