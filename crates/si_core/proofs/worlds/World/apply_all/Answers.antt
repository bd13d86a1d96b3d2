use Rattle.std.proofs.Common.{rules, ◌≡◌, ◌∙◌, ◌<◌, length, refl, sym, ap, subst, Some, slice_get, slice_set}
use Rattle.std.proofs.lemmas.Option.{slice_get-get_or}
use Rattle.si_core.specs.declared.steps.Reply.TheVariants as reply
use Rattle.si_core.specs.Machine.{AppliesUntil, no_shard}
use Rattle.si_core.specs.Worlds.{machine_of}
use Rattle.si_core.proofs.AllLeft.{applies_all, idle_is_other}
use Rattle.si_core.proofs.Progressing.{beyond_all, own_count, world_still}
use Rattle.si_core.proofs.worlds.World.apply_all.Goals as goal

pub apply_left-requires : goal.apply_left-requires
apply_left-requires c =
    let shards = c.self.inside.shards.items in
    let k = c.args.shard in
    let s = c.index_mut.result.now in
    let within : k < length shards = search rules in
    let at : slice_get shards k ≡ Some s = slice_get-get_or shards k s within ∙ ap Some (sym c.index_mut.ensures.value) in
    own_count c.self.inside.book.journal _ k s (c.self.invariant.each k s at)

pub invariant_of-self : goal.invariant_of-self
invariant_of-self c =
    let shards = c.self.inside.shards.items in
    let k = c.args.shard in
    let s = c.index_mut.result.now in
    let within : k < length shards = search rules in
    let at : slice_get shards k ≡ Some s = slice_get-get_or shards k s within ∙ ap Some (sym c.index_mut.ensures.value) in
    world_still c.self.inside.book shards k s c.apply_left.new.shard at c.apply_left.ensures.0 c.self.invariant

pub returns : goal.returns
returns c =
    let shards = c.self.inside.shards.items in
    let k = c.args.shard in
    let s = c.index_mut.result.now in
    let within : k < length shards = search rules in
    let at : slice_get shards k ≡ Some s = slice_get-get_or shards k s within ∙ ap Some (sym c.index_mut.ensures.value) in
    subst (λ M. AppliesUntil M k c.apply_left.result (machine_of c.self.inside.book (slice_set shards k c.apply_left.new.shard))) c.self.view_is
    (applies_all c.self.inside.book shards k s c.apply_left.new.shard at c.apply_left.result c.apply_left.ensures)

pub returns-then-shard-len : goal.returns-then-shard-len
returns-then-shard-len c = (
  0,
  c.args.self.now,
  refl,
  no_shard (beyond_all c.self.inside.book c.self.inside.shards.items c.args.shard c.args.self.now c.self.view_is (search rules)),
  idle_is_other reply.Idle refl,
)
