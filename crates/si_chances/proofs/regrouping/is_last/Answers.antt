use Rattle.std.proofs.Common.{◌∙◌}
use Rattle.si_chances.proofs.Regrouped.{ends_at}
use Rattle.si_chances.proofs.regrouping.is_last.Goals as goal

pub returns-in-Some : goal.returns-in-Some
returns-in-Some c = c.eq.ensures ∙ ends_at c.args.txn.now.id c.args.parts.now c.in-Some.part.now c.in-Some.ensures.value
