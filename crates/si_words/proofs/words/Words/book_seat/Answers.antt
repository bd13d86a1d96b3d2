use Rattle.std.proofs.Common.{rules, sym, ap, ◌∙◌}
use Rattle.si_words.proofs.Handing.{drops_opener_as}
use Rattle.si_words.proofs.words.Words.book_seat.Goals as goal

pub split_seat-requires : goal.split_seat-requires
split_seat-requires c = (c.requires.own ∙ sym (ap (λ w. w.table) c.self.view_is), search rules, drops_opener_as _ _ _ _ _ _ _ _ (sym (ap (λ w. w.shards) c.self.view_is)) (ap (λ m. m.0) c.requires.view))
