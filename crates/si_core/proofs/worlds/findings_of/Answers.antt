use Rattle.std.proofs.Common.{◌≡◌, ◌∙◌, ◌+◌, ◌++◌, suc, Some, length, take, slice_get, arith, sym, ap}
use Rattle.std.proofs.lemmas.Option.{slice_get-get_or}
use Rattle.si_lists.proofs.Members.{get_contains}
use Rattle.si_shard.specs.Laws.{findings_below}
use Rattle.si_shard.specs.Shards.{findings_in}
use Rattle.si_model.specs.Journals.{present}
use Rattle.si_core.proofs.worlds.findings_of.Goals as goal

pub loop-place-preserved : goal.loop-place-preserved
loop-place-preserved c = λ J P accepted follow are.
    let shards = c.args.shards.now in
    let place = c.loop-place.place in
    let shard = c.index-shards-place.result in
    let at : slice_get shards place ≡ Some shard = slice_get-get_or shards place shard c.loop-place-test.true ∙ ap Some (sym c.index-shards-place.is) in
    let one : suc place ≡ place + 1 = omega arith in
    c.in-Ok.ensures.ok J accepted (follow shard (get_contains shards place shard at)) ∙ ap (λ l. l ++ findings_in shard.id (present (take shard.position J))) (c.loop-place.invariant J P accepted follow are)
    ∙ ap (λ l. findings_below place (length shards) P ++ l) (are place shard at) ∙ ap (λ m. findings_below m (length shards) P) one

pub add_findings-requires : goal.add_findings-requires
add_findings-requires c =
    let f = c.requires.follow in
    let shards = c.args.shards.now in
    let place = c.loop-place.place in
    let shard = c.index-shards-place.result in
    (f.0, f.1, f.2 shard (get_contains shards place shard (slice_get-get_or shards place shard c.loop-place-test.true ∙ ap Some (sym c.index-shards-place.is))))

pub returns : goal.returns
returns c = λ J P accepted follow history are.
    let shards = c.args.shards.now in
    let all : c.loop-place.place ≡ length shards = (let e = c.loop-place.auto.place-end in let t = c.loop-place-test.false in omega arith) in
    c.put_all_in_order.ensures (length shards) P c.requires.some history (c.loop-place.invariant J P accepted follow are ∙ ap (λ m. findings_below m (length shards) P) all)
