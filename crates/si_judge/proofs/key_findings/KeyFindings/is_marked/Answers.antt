use Rattle.std.proofs.Common.{◌≡◌, ◌∙◌, Bool, [], ap, false, not, refl, sym, true, true≢false}
use Rattle.si_judge.specs.Kept.{Kept}
use Rattle.si_judge.proofs.MarkLists.{unmarked}
use Rattle.si_judge.proofs.key_findings.KeyFindings.is_marked.Goals as goal

is_true : (b : Bool) → not b ≡ false → b ≡ true
is_true true e = refl
is_true false e = absurd (true≢false e)

false_from : (b : Bool) → b ≡ true → not b ≡ false
false_from true e = refl
false_from false e = absurd (true≢false (sym e))

pub returns-clause-exact : goal.returns-clause-exact
returns-clause-exact g c =
    let is : c.args.self.now.marks ≡ c.self.inside.marks = sym (ap (λ (s : Kept). s.marks) c.self.view_is) in (
      λ settled. is ∙ c.is_empty.ensures.0 (is_true c.is_empty.result settled),
      λ none. false_from c.is_empty.result (c.is_empty.ensures.1 (sym is ∙ none)),
    )

pub returns-clause-shown : goal.returns-clause-shown
returns-clause-shown g c = λ settled M would.
    let marks : c.args.self.now.marks ≡ [] = sym (ap (λ (s : Kept). s.marks) c.self.view_is) ∙ c.is_empty.ensures.0 (is_true c.is_empty.result settled) in
    unmarked g.J.Judge.rules M c.args.self.now marks would
