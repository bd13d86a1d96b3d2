use Rattle.std.proofs.Common.{rules, sym, ap, ◌∙◌}
use Rattle.si_words.proofs.Taken.{taken}
use Rattle.si_words.proofs.Joined.{joins_shard_pass_as}
use Rattle.si_words.proofs.words.Words.join_learner.Goals as goal

pub join_seat-requires : goal.join_seat-requires
join_seat-requires c =
    let table = ap (λ w. w.table) c.self.view_is in
    let t = c.take_seat-seat.ensures in
    let is = taken _ _ _ c.requires.pass.1 t.1 t.2 in
    (c.requires.shard.0 ∙ sym table, t.0 ∙ c.requires.pass.0 ∙ sym table, t.2, search rules, joins_shard_pass_as _ _ _ _ _ _ _ _ (ap (λ m. m.0) c.requires.shard.1) (ap (λ m. m.0) is))
