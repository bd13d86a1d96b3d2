use Rattle.std.proofs.Common.{◌≡◌, Some}
use Rattle.std.proofs.lemmas.List.Elements.{All-pop}
use Rattle.si_words.specs.declared.seats.Pass.{Pass}
use Rattle.si_checker_tests.specs.declared.tests.words.Issuer.{Issuer}
use Rattle.si_checker_tests.proofs.Pushed.{All-pushed}
use Rattle.si_checker_tests.proofs.tests.words.issuers_of.Goals as goal

pub loop-preserved : goal.loop-preserved
loop-preserved g c =
    let popped = All-pop (λ (p : Pass). p.table ≡ c.args.words.now.table) _ _ (Some c.in-Some.pass) c.in-Some.ensures.items c.loop.invariant.0 in
    (popped.0, All-pushed (λ (i : Issuer). i.pass.table ≡ c.args.words.now.table) c.loop.issuers.items c.push.new.self.items _ _ c.push.ensures.items c.loop.invariant.1 popped.1)
