use Rattle.std.proofs.Common.{◌∙◌, sym}
use Rattle.si_graph.proofs.Explained.{explained}
use Rattle.si_graph.proofs.explanations.explain.Goals as goal

pub returns-in-Some-clause-shows : goal.returns-in-Some-clause-shows
returns-in-Some-clause-shows c =
    let is = c.in_ok-is_found.ensures.0 c.if-not-branch.false in
    explained c.model_laws.ensures (record { txns = c.args.txns.now; initial = c.args.initial.now }) c.requires c.args.finding.now is c.in-Some.evidence (sym c.in_ok-evidence.ensures ∙ c.in-Some.is)
