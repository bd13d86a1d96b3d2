use Rattle.std.proofs.Common.{◌≡◌, ◌+◌, sym, subst, arith}
use Rattle.si_core.proofs.Opening.{AreFresh, none_fresh, one_more_fresh, opened_world, opens}
use Rattle.si_core.proofs.worlds.World.new.Goals as goal

pub loop-shard-init : goal.loop-shard-init
loop-shard-init c = none_fresh c.args.shards c.new-all.result.items c.new-all.ensures.items

pub loop-shard-preserved : goal.loop-shard-preserved
loop-shard-preserved c =
    let n = c.args.shards in
    let k = c.loop-shard.shard in
    subst (AreFresh n (k + 1)) (sym c.in_ok-push.ensures.items) (one_more_fresh n k c.loop-shard.all.items c.new.result c.loop-shard.invariant (record { state = c.new.ensures.state; follows = c.new.ensures.follows }))

pub invariant_of-result : goal.invariant_of-result
invariant_of-result c =
    let n = c.args.shards in
    let all : c.loop-shard.shard ≡ n = (let e = c.loop-shard.auto.shard-end in let t = c.loop-shard-test.false in omega arith) in
    opened_world n c.args.limit c.loop-shard.all.items (subst (λ k. AreFresh n k c.loop-shard.all.items) all c.loop-shard.invariant) c.new-2.result c.requires.some_shards c.requires.most_shards

pub returns : goal.returns
returns c =
    let n = c.args.shards in
    let all : c.loop-shard.shard ≡ n = (let e = c.loop-shard.auto.shard-end in let t = c.loop-shard-test.false in omega arith) in
    opens n c.args.limit c.loop-shard.all.items (subst (λ k. AreFresh n k c.loop-shard.all.items) all c.loop-shard.invariant) c.new-2.result c.new-2.ensures
