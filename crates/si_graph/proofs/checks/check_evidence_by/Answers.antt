use Rattle.std.proofs.Common.{◌∙◌, sym}
use Rattle.si_graph.proofs.EvidenceDecided.{shown_decides}
use Rattle.si_graph.proofs.checks.check_evidence_by.Goals as goal

pub returns : goal.returns
returns g c =
    let by = shown_decides c.model_laws.ensures (g.L.Lookup.present c.args.lookup.now) c.requires c.args.evidence.now in
    (λ yes. by.0 (sym c.holds.ensures ∙ yes), λ shown. c.holds.ensures ∙ by.1 shown)
