use Rattle.std.proofs.Common.{List, ap, sym, subst, ◌∙◌}
use Rattle.std.proofs.lemmas.Result.{IfOk-weaker}
use Rattle.si_model.specs.declared.parts.Part.{Part}
use Rattle.si_model.specs.History.{IsOfHistory}
use Rattle.si_chances.specs.Groups.{parts_at}
use Rattle.si_chances.specs.OnKeys.{on, places_on}
use Rattle.si_chances.proofs.Regrouped.{parts_at_slots}
use Rattle.si_chances.proofs.Totals.{on_history}
use Rattle.si_chances.proofs.counting.places_at.Goals as goal

pub places_on-requires : goal.places_on-requires
places_on-requires c =
    let txns = c.args.txns.now in
    let x = c.requires.slots.0 in
    let items = c.deref.ensures.value ∙ c.in_ok-parts.ensures ∙ ap (parts_at txns) c.requires.slots.1 ∙ parts_at_slots txns x c.requires.history.1.names in
    subst (λ (ps : List Part). IsOfHistory (on ps)) (sym items) (on_history txns c.requires.history.0 x c.requires.history.1)

pub returns : goal.returns
returns c =
    let txns = c.args.txns.now in
    IfOk-weaker c.places_on.result _ _ (λ places is x at.
    (let items = c.deref.ensures.value ∙ c.in_ok-parts.ensures ∙ ap (parts_at txns) at ∙ parts_at_slots txns x c.requires.history.1.names in
    is ∙ ap (λ (ps : List Part). places_on (on ps)) items)) c.places_on.ensures
