use Rattle.std.proofs.Common.{rules, ◌≡◌, ◌∙◌, ◌<◌, length, sym, ap, subst, Some, slice_get, slice_set}
use Rattle.std.proofs.lemmas.Option.{slice_get-get_or}
use Rattle.si_core.specs.Machine.{IsApply, no_shard}
use Rattle.si_core.specs.Worlds.{machine_of}
use Rattle.si_core.proofs.Progressing.{applies, beyond_all, own_count, world_still}
use Rattle.si_core.proofs.worlds.World.apply.Goals as goal

pub apply_next-requires : goal.apply_next-requires
apply_next-requires c =
    let shards = c.self.inside.shards.items in
    let k = c.args.shard in
    let s = c.index_mut.result.now in
    let within : k < length shards = search rules in
    let at : slice_get shards k ≡ Some s = slice_get-get_or shards k s within ∙ ap Some (sym c.index_mut.ensures.value) in
    own_count c.self.inside.book.journal _ k s (c.self.invariant.each k s at)

pub invariant_of-self : goal.invariant_of-self
invariant_of-self c =
    let shards = c.self.inside.shards.items in
    let k = c.args.shard in
    let s = c.index_mut.result.now in
    let within : k < length shards = search rules in
    let at : slice_get shards k ≡ Some s = slice_get-get_or shards k s within ∙ ap Some (sym c.index_mut.ensures.value) in
    world_still c.self.inside.book shards k s c.apply_next.new.shard at c.apply_next.ensures.0 c.self.invariant

pub returns : goal.returns
returns c =
    let shards = c.self.inside.shards.items in
    let k = c.args.shard in
    let s = c.index_mut.result.now in
    let within : k < length shards = search rules in
    let at : slice_get shards k ≡ Some s = slice_get-get_or shards k s within ∙ ap Some (sym c.index_mut.ensures.value) in
    subst (λ M. IsApply M k c.apply_next.result (machine_of c.self.inside.book (slice_set shards k c.apply_next.new.shard))) c.self.view_is
    (applies c.self.inside.book shards k s c.apply_next.new.shard at c.apply_next.result c.apply_next.ensures)

pub returns-then-shard-len : goal.returns-then-shard-len
returns-then-shard-len c = no_shard (beyond_all c.self.inside.book c.self.inside.shards.items c.args.shard c.args.self.now c.self.view_is (search rules))
