use Rattle.std.proofs.Common.{◌∙◌, sym}
use Rattle.si_graph.proofs.EvidenceDecided.{shown_decides}
use Rattle.si_graph.proofs.checks.check_evidence.Goals as goal

pub returns : goal.returns
returns c =
    let by = shown_decides c.model_laws.ensures (record { txns = c.args.txns.now; initial = c.args.initial.now }) c.requires c.args.evidence.now in
    (λ yes. by.0 (sym c.holds.ensures ∙ yes), λ shown. c.holds.ensures ∙ by.1 shown)
