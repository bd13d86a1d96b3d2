use Rattle.si_judge.proofs.Waitings.{would_show}
use Rattle.si_judge.proofs.key_findings.KeyFindings.is_bare.Goals as goal

pub returns : goal.returns
returns g c = λ M shows. c.has_nothing.ensures M (would_show g.J.Judge.rules M c.args.self.now shows)
