use Rattle.std.proofs.Common.{◌≡◌, ◌≢◌, ◌∙◌, ◌==◌, true, refl, sym, subst, arith}
use Rattle.std.specs.declared.cmp.Ordering.{Ordering}
use Rattle.std.specs.declared.cmp.Ordering.TheVariants.{Less, Equal, Greater}
use Rattle.std.specs.Ordering.{ordering_index}
use Rattle.std.proofs.lemmas.List.Elements.{All-more}
use Rattle.si_model.specs.Order.{finding_cmp}
use Rattle.si_text.proofs.Walked.{past_end}
use Rattle.si_text.proofs.changes.passed.Goals as goal

is_less : (o : Ordering) → (ordering_index o == 0) ≡ true → o ≡ Less
is_less Less e = refl
is_less Equal e = cc
is_less Greater e = cc

pub loop-at-preserved : goal.loop-at-preserved
loop-at-preserved c =
    let f = c.index-findings-at.result in
    let less : finding_cmp f c.args.finding.now ≡ Less = sym c.cmp.ensures ∙ is_less c.cmp.result (sym c.eq.ensures ∙ c.if-eq.true) in
    let below = c.loop-at-test.true in
    record {
      within = omega arith;
      before = λ first. All-more (λ g. finding_cmp g c.args.finding.now ≡ Less) c.args.findings.now c.loop-at.at f below (c.loop-at.invariant.before first)
          (subst (λ g. finding_cmp g c.args.finding.now ≡ Less) c.index-findings-at.is less);
    }

pub returns-after-loop-at-clause-here : goal.returns-after-loop-at-clause-here
returns-after-loop-at-clause-here c = past_end (λ f. finding_cmp f c.args.finding.now ≢ Less) c.args.findings.now c.loop-at.at c.loop-at-test.false
