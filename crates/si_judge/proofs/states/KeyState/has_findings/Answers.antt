use Rattle.std.proofs.Common.{◌∙◌, ◌↔◌, IsTrue, ap, subst}
use Rattle.std.specs.List.{Contains}
use Rattle.si_model.specs.declared.findings.Finding.{Finding}
use Rattle.si_model.specs.Findings.{findings_on}
use Rattle.si_judge.specs.States.{present_of}
use Rattle.si_judge.proofs.states.KeyState.has_findings.Goals as goal

pub returns : goal.returns
returns g c = λ whole.
    subst (λ s. IsTrue c.has_findings.result ↔ ((f : Finding) × Contains (findings_on g.J.Judge.rules s.key s.present) f)) c.self.view_is
    (c.has_findings.ensures.found (present_of c.self.inside.findings c.self.inside.parts) (c.self.invariant (ap (λ s. s.spoiled) c.self.view_is ∙ whole)))
