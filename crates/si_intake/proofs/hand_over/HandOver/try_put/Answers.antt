use Rattle.std.proofs.Common.{sym, ap}
use Rattle.si_intake.proofs.Rules.{puts}
use Rattle.si_intake.proofs.hand_over.HandOver.try_put.Goals as goal

pub push_as-requires-clause-rule : goal.push_as-requires-clause-rule
push_as-requires-clause-rule g c =
    let is = c.requires.source in
    (puts _ _ _ _ (ap (λ v. v.sends) is) (ap (λ v. v.gets) is) (sym (ap (λ v. v.from) is)) c.requires.unended, λ items views h at. tt)
