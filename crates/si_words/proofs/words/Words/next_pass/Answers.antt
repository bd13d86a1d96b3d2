use Rattle.std.proofs.Common.{ℕ, ◌<◌, rules, sym, ap, ◌∙◌, subst}
use Rattle.si_words.proofs.Handing.{gives_pass_as}
use Rattle.si_words.proofs.words.Words.next_pass.Goals as goal

pub split_seat-requires : goal.split_seat-requires
split_seat-requires c =
    let below = subst (λ (n : ℕ). c.args.number < n) (sym (ap (λ w. w.passes) c.self.view_is)) c.requires.below in
    (c.requires.own ∙ sym (ap (λ w. w.table) c.self.view_is), search rules, gives_pass_as _ _ _ _ _ _ _ _ (sym (ap (λ w. w.shards) c.self.view_is)) (ap (λ m. m.0) c.requires.view) below)
