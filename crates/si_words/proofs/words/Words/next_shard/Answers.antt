use Rattle.std.proofs.Common.{rules, sym, ap, ◌∙◌}
use Rattle.si_words.proofs.Handing.{gives_shard_as}
use Rattle.si_words.proofs.words.Words.next_shard.Goals as goal

pub split_seat-requires : goal.split_seat-requires
split_seat-requires c = (c.requires.own ∙ sym (ap (λ w. w.table) c.self.view_is), search rules, gives_shard_as _ _ _ _ _ _ _ _ (sym (ap (λ w. w.shards) c.self.view_is)) (ap (λ m. m.0) c.requires.view) c.requires.below)
