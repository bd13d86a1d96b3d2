use Rattle.std.proofs.Common.{ap}
use Rattle.si_intake.proofs.Rules.{takes}
use Rattle.si_intake.proofs.hand_over.HandOver.try_take.Goals as goal

pub pop_as-requires-clause-rule : goal.pop_as-requires-clause-rule
pop_as-requires-clause-rule g c = let is = c.requires.accepter in (takes _ _ (ap (λ v. v.gets) is) (ap (λ v. v.sends) is), λ items views h at. tt)
