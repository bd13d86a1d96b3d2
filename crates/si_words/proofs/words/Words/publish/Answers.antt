use Rattle.std.proofs.Common.{◌≤◌, length, arith, sym, ap, ◌∙◌}
use Rattle.si_words.proofs.Taken.{taken, publishes_as}
use Rattle.si_words.specs.Seats.{first_shard}
use Rattle.si_words.proofs.words.Words.publish.Goals as goal

pub overflow_add-shard-inside : goal.overflow_add-shard-inside
overflow_add-shard-inside c =
    let same = ap (λ s. s.table.words) c.shard.view_is ∙ ap (λ t. t.words) c.requires.own ∙ sym (ap (λ w. w.table.words) c.self.view_is) in
    let seat = c.shard.invariant in
    let words = c.self.invariant in
    omega arith

pub fetch_max-requires : goal.fetch_max-requires
fetch_max-requires c =
    let t = c.take_seat-place.ensures in
    let is = taken _ _ _ c.shard.invariant.0 t.1 t.2 in
    let own = t.0 ∙ ap (λ s. s.table) c.shard.view_is ∙ c.requires.own ∙ sym (ap (λ w. w.table) c.self.view_is) in
    let same = ap (λ s. s.table.words) c.shard.view_is ∙ ap (λ t. t.words) c.requires.own ∙ sym (ap (λ w. w.table.words) c.self.view_is) in
    let seat = c.shard.invariant in
    let view = first_shard c.shard.inside.badge.views in
    let onward : view.done ≤ c.args.position = (let e = ap (λ s. s.view.done) c.shard.view_is in let h = c.requires.onward in omega arith) in
    let due : c.args.position ≤ length view.due = (let e = ap (λ s. length s.view.due) c.shard.view_is in let h = c.requires.due in omega arith) in
    (own, omega arith, publishes_as _ _ _ _ _ _ is _ _ c.shard.invariant.1 onward due)
