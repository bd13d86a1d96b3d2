use Rattle.std.proofs.Common.{rules, sym, ap, ◌∙◌}
use Rattle.si_words.proofs.Joined.{closes_as}
use Rattle.si_words.proofs.words.Words.close.Goals as goal

pub store-requires : goal.store-requires
store-requires c = (ap (λ s. s.table) c.book.view_is ∙ c.requires.own ∙ sym (ap (λ w. w.table) c.self.view_is), search rules, closes_as _ _ _ _ _ _ c.book.invariant)
