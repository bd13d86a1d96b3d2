use Rattle.std.proofs.Common.{◌≡◌, None, false, refl, subst, sym}
use Rattle.si_model.specs.declared.parts.OnKey.{OnKey}
use Rattle.si_model.specs.KeyEdits.{set_up_on}
use Rattle.si_model.specs.History.{IsOfHistory}
use Rattle.si_judge.specs.Kept.{IsShown}
use Rattle.si_judge.specs.States.{IsMended, present_of}
use Rattle.si_judge.specs.Touched.{IsTouchedBySetUp}
use Rattle.si_judge.proofs.Beside.{mended_beside, shows_beside}
use Rattle.si_judge.proofs.states.KeyState.set_up.Goals as goal

module _ (g : _) (c : goal.After-self-1 g) where
  abbrev Q : OnKey
  Q = present_of c.self.inside.findings c.self.inside.parts

  shown : IsShown g.J.Judge.rules (IsTouchedBySetUp (set_up_on c.args.value Q) c.args.value) (set_up_on c.args.value Q) c.self.inside.findings c.set_up.new.self
  shown =
      let asked = subst (λ s. s.spoiled ≡ false → (s.present.initial ≡ None) × IsOfHistory (set_up_on c.args.value s.present)) (sym c.self.view_is) c.requires c.in_ok-begin.ensures.ok in
      c.in_ok-set_up.ensures.ok Q (c.self.invariant c.in_ok-begin.ensures.ok) asked.0 asked.1

pub invariant_of-self-2 : goal.invariant_of-self-2
invariant_of-self-2 g c = λ e. shows_beside g.J.Judge.rules (set_up_on c.args.value (Q g c)) c.set_up.new.self c.self.inside.parts (shown g c).shows refl

pub returns-clause-ok : goal.returns-clause-ok
returns-clause-ok g c =
    let v = c.args.value in
    let findings = c.set_up.new.self in
    subst (λ s. IsMended (IsTouchedBySetUp (present_of findings c.self.inside.parts) v) (set_up_on v s.present) s
    (record { key = findings.key; present = present_of findings c.self.inside.parts; judged = findings.judged; spoiled = false })) c.self.view_is
    (mended_beside g.J.Judge.rules (λ R. IsTouchedBySetUp R v) (set_up_on v (Q g c)) (Q g c) (set_up_on v (Q g c)) c.self.inside.findings findings c.self.inside.parts c.self.inside.spoiled (shown g c)
    (record { initial = refl; parts = λ X. ((λ x. x), (λ x. x)) }) refl c.set_up.ensures.key)
