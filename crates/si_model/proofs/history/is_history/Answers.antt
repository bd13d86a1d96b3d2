use Rattle.std.proofs.Common.{◌∙◌, sym}
use Rattle.si_model.specs.Parts.{Present}
use Rattle.si_model.proofs.Deciding.{history_decided}
use Rattle.si_model.proofs.history.is_history.Goals as goal

pub returns : goal.returns
returns c =
    let P : Present = record { txns = c.args.txns.now; initial = c.args.initial.now } in
    let by = history_decided P in
    (λ yes. by.0 (sym c.is_consistent.ensures ∙ yes), λ history. c.is_consistent.ensures ∙ by.1 history)
