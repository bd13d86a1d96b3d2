use Rattle.std.proofs.Common.{◌<◌, rules, arith, sym, ap, ◌∙◌}
use Rattle.si_words.proofs.Taken.{taken, looks_as}
use Rattle.si_words.proofs.words.Words.shard_mark.Goals as goal

pub load-found-requires : goal.load-found-requires
load-found-requires c =
    let t = c.take_seat-place.ensures in
    let is = taken _ _ _ c.pass.invariant.0 t.1 t.2 in
    let below : c.args.k < c.self.inside.table.shared.key.0 = (let e = ap (λ w. w.shards) c.self.view_is in let h = c.requires.shard in omega arith) in
    (t.0 ∙ ap (λ s. s.table) c.pass.view_is ∙ c.requires.own ∙ sym (ap (λ w. w.table) c.self.view_is), search rules, looks_as _ _ _ _ _ _ is c.args.k below)
