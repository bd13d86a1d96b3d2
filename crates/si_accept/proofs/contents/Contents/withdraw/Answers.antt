use Rattle.std.proofs.Common.{◌≡◌, ◌∙◌, ap, sym}
use Rattle.std.specs.List.{filter}
use Rattle.std.specs.Option.{option_copied}
use Rattle.si_model.specs.Edits.{with_id, is_another}
use Rattle.si_accept.proofs.IndexChanges.{withdrawn_of}
use Rattle.si_accept.proofs.contents.Contents.withdraw.Goals as goal

pub invariant_of-self-2 : goal.invariant_of-self-2
invariant_of-self-2 c =
    let txns = c.self.inside.arrivals.txns in
    let there = ap (λ K. with_id K.txns c.args.id) (sym c.reserve.ensures.same) ∙ sym c.get.ensures ∙ ap option_copied c.unwrap-txn.ensures in
    let now : c.withdraw.new.self.txns ≡ filter (is_another c.args.id) txns = c.withdraw.ensures.txns ∙ ap (λ K. filter (is_another c.args.id) K.txns) c.reserve.ensures.same in
    rw now (withdrawn_of txns c.self.inside.index c.remove.new.self c.args.id c.unwrap-txn.result.now c.self.invariant there c.remove.ensures)
