use Rattle.std.proofs.Common.{rules, sym, ap, ◌∙◌}
use Rattle.si_words.proofs.Joined.{parts_pass_of_shard_as}
use Rattle.si_words.proofs.words.Words.part_learner.Goals as goal

pub split_seat-requires : goal.split_seat-requires
split_seat-requires c = (c.requires.0 ∙ sym (ap (λ w. w.table) c.self.view_is), search rules, parts_pass_of_shard_as _ _ _ _ _ _ (ap (λ m. m.0) c.requires.1))
