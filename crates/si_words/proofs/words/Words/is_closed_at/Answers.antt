use Rattle.std.proofs.Common.{rules, sym, ap, ◌∙◌}
use Rattle.si_words.proofs.Taken.{taken, asks_at_as}
use Rattle.si_words.proofs.words.Words.is_closed_at.Goals as goal

pub load-found-requires : goal.load-found-requires
load-found-requires c =
    let t = c.take_seat-place.ensures in
    let is = taken _ _ _ c.shard.invariant.0 t.1 t.2 in
    (t.0 ∙ ap (λ s. s.table) c.shard.view_is ∙ c.requires.own ∙ sym (ap (λ w. w.table) c.self.view_is), search rules, asks_at_as _ _ _ _ _ _ is)
