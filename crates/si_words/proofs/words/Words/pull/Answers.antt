use Rattle.std.proofs.Common.{rules, sym, ap, ◌∙◌}
use Rattle.si_words.proofs.Joined.{pulls_as}
use Rattle.si_words.proofs.words.Words.pull.Goals as goal

pub load-requires : goal.load-requires
load-requires c = let j = c.join_shard.ensures in (j.0 ∙ sym (ap (λ w. w.table) c.self.view_is), search rules, pulls_as _ _ _ _ _ _ _ j.1)
