use Rattle.std.proofs.Common.{◌∙◌, ◌+◌, length, refl, ap, sym, subst}
use Rattle.std.proofs.lemmas.Option.{slice_get_read}
use Rattle.std.proofs.lemmas.List.Filters.{dedup_is}
use Rattle.si_model.specs.KeyTexts.{shard_hash}
use Rattle.si_shard.specs.ShardIds.{is_ours}
use Rattle.si_shard.proofs.Listing.{AreListed, in_order_by_key, key_place_eq, listed_more, listed_past, none_listed}
use Rattle.si_shard.proofs.single_edits.by_key.Goals as goal
use Rattle.si_shard.proofs.single_edits.by_key.Goals.{then-has+in_ok-push, else-has}

pub loop-place-init : goal.loop-place-init
loop-place-init c = subst (AreListed c.args.id c.args.ops.now 0) (sym c.new-list.ensures.items) (none_listed c.args.id c.args.ops.now)

pub loop-place-preserved : goal.loop-place-preserved
loop-place-preserved c =
    let id = c.args.id in
    let ops = c.args.ops.now in
    let i = c.loop-place.place in
    let p = c.index-ops-place.result in
    let at = slice_get_read ops (length ops) i p refl c.loop-place-test.true c.index-ops-place.is in
    elim c.if-has.branch [
      | then-has+in_ok-push w ↦
          let ours = sym (ap (is_ours id) c.key.ensures) ∙ sym c.has.ensures ∙ w.if-has.true in
          subst (AreListed id ops (i + 1)) (sym (ap (λ v. v.items) w.list-is ∙ w.in_ok-push.ensures.items)) (listed_more id ops i p at c.loop-place.list.items c.loop-place.invariant ours (w.shard_hash.result, w.key-then-has-2.result, i) (w.shard_hash.ensures ∙ ap shard_hash w.key-then-has.ensures) w.key-then-has-2.ensures refl)
      | else-has w ↦
          let other = sym (ap (is_ours id) c.key.ensures) ∙ sym c.has.ensures ∙ w.if-has.false in
          subst (AreListed id ops (i + 1)) (sym (ap (λ v. v.items) w.list-is)) (listed_past id ops i p at c.loop-place.list.items c.loop-place.invariant other)
    ]

pub returns : goal.returns
returns c = in_order_by_key c.args.id c.args.ops.now c.loop-place.place c.loop-place.list.items c.sort_unstable.new.self.items c.dedup.new.self.items c.loop-place-test.false c.loop-place.invariant
    c.sort_unstable.ensures.permutation c.sort_unstable.ensures.sorted (dedup_is key_place_eq c.sort_unstable.new.self.items c.dedup.new.self.items c.dedup.ensures.filtered)
