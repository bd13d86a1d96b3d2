use Rattle.std.proofs.Common.{rules, sym, ap, ◌∙◌}
use Rattle.si_words.proofs.Joined.{sees_as}
use Rattle.si_words.proofs.words.Words.see.Goals as goal

pub load-requires : goal.load-requires
load-requires c = let j = c.join_pass.ensures in (j.0 ∙ sym (ap (λ w. w.table) c.self.view_is), search rules, sees_as _ _ _ _ _ _ _ j.1)
