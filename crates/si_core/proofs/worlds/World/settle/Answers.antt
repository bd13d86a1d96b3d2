use Rattle.std.proofs.Common.{rules, ◌≡◌, ◌∙◌, ◌<◌, true≢false, length, sym, ap, subst, arith}
use Rattle.std.proofs.lemmas.List.{length-map}
use Rattle.si_core.specs.Machine.{AppliesUntil, Machine}
use Rattle.si_core.specs.Worlds.{progress_of}
use Rattle.si_core.proofs.Applications.{beside_both, settles_ended, settles_next, until_beside}
use Rattle.si_core.proofs.worlds.World.settle.Goals as goal

-- as many shards as there are
pub returns-then-not-is_idle : goal.returns-then-not-is_idle
returns-then-not-is_idle c =
    let start = c.args.self.now in
    let count : length start.shards ≡ c.len-shard-end.result = (let e = c.len-shard-end.ensures in let m = length-map c.self.inside.shards.items progress_of in let v = ap (λ (M : Machine). length M.shards) c.self.view_is in search rules) in
    let within : c.loop-shard.shard < length start.shards = (let t = c.loop-shard-test.true in omega arith) in
    settles_ended (length start.shards) c.loop-shard.shard start c.loop-shard.self c.apply_all-reply.new.self c.apply_all-reply.result within c.loop-shard.invariant.0
    (λ e. true≢false (sym (c.is_idle.ensures.1 e) ∙ c.if-not-is_idle.true)) c.apply_all-reply.ensures

pub loop-shard-preserved : goal.loop-shard-preserved
loop-shard-preserved c =
    let start = c.args.self.now in
    let k = c.loop-shard.shard in
    let M = c.loop-shard.self in
    let N = c.apply_all-reply.new.self in
    let count : length start.shards ≡ c.len-shard-end.result = (let e = c.len-shard-end.ensures in let m = length-map c.self.inside.shards.items progress_of in let v = ap (λ (M : Machine). length M.shards) c.self.view_is in search rules) in
    let within : k < length start.shards = (let t = c.loop-shard-test.true in omega arith) in
    let idle = c.is_idle.ensures.0 c.if-not-is_idle.false in (
      settles_next (length start.shards) k start M N within c.loop-shard.invariant.0 (subst (λ r. AppliesUntil M k r N) idle c.apply_all-reply.ensures),
      beside_both start M N c.loop-shard.invariant.1 (until_beside M N k c.apply_all-reply.result c.apply_all-reply.ensures),
    )
