use Rattle.std.proofs.Common.{◌≡◌, ◌∙◌, ◌++◌, ◌∷◌, [], ap}
use Rattle.si_model.specs.Parts.{Present}
use Rattle.si_model.specs.Edits.{arrival_refusal, taken_at}
use Rattle.si_accept.proofs.NewArrivals.{lacks_arrival, id_of_arrival}
use Rattle.si_accept.proofs.IndexChanges.{indexed_arrived}
use Rattle.si_accept.proofs.contents.Contents.arrive.Goals as goal

pub add-requires : goal.add-requires
add-requires c =
    let P : Present = record { txns = c.self.inside.arrivals.txns; initial = c.self.inside.initial } in
    lacks_arrival P c.self.inside.index c.args.txn c.self.invariant (ap (λ R. arrival_refusal R.present c.args.txn) c.self.view_is ∙ c.requires) (c.first_is_first.ensures (taken_at P.txns) c.args.txn.ops)

pub invariant_of-self-2 : goal.invariant_of-self-2
invariant_of-self-2 c =
    let P : Present = record { txns = c.self.inside.arrivals.txns; initial = c.self.inside.initial } in
    let free = ap (λ R. arrival_refusal R.present c.args.txn) c.self.view_is ∙ c.requires in
    let lacks = lacks_arrival P c.self.inside.index c.args.txn c.self.invariant free (c.first_is_first.ensures (taken_at P.txns) c.args.txn.ops) in
    let now : c.arrive.new.self.txns ≡ P.txns ++ c.args.txn ∷ [] = c.arrive.ensures.txns ∙ ap (λ K. K.txns ++ c.args.txn ∷ []) c.reserve.ensures.same in
    rw now (indexed_arrived P.txns c.self.inside.index c.add.new.self c.args.txn c.self.invariant (id_of_arrival P c.args.txn free) lacks c.in_ok-add.ensures.ok)
