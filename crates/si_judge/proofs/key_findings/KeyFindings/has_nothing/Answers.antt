use Rattle.std.proofs.Common.{◌↔◌, IsTrue, subst}
use Rattle.si_model.specs.declared.parts.OnKey.{OnKey}
use Rattle.si_judge.specs.Kept.{IsBare, WouldShow}
use Rattle.si_judge.proofs.Bare.{bare_from, bare_is}
use Rattle.si_judge.proofs.key_findings.KeyFindings.has_nothing.Goals as goal

pub returns : goal.returns
returns g c = subst (λ s. (M : OnKey) → WouldShow g.J.Judge.rules M s → IsTrue c.is_empty.result ↔ IsBare M) c.self.view_is (λ M would. (
  (λ t. let e = c.is_empty.ensures.0 t in bare_from c.self.inside.indexes would.indexes e.0 e.1 e.2 e.3),
  (λ bare. c.is_empty.ensures.1 (bare_is c.self.inside.indexes would.indexes bare)),
))
