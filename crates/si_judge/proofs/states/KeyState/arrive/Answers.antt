use Rattle.std.proofs.Common.{◌≡◌, false, refl, subst, sym}
use Rattle.si_model.specs.declared.parts.OnKey.{OnKey}
use Rattle.si_model.specs.KeyEdits.{arrived_on}
use Rattle.si_model.specs.History.{IsOfHistory}
use Rattle.si_judge.specs.Kept.{IsShown}
use Rattle.si_judge.specs.States.{AreSameOnKey, IsMended, present_of}
use Rattle.si_judge.specs.Touched.{IsTouched}
use Rattle.si_judge.proofs.Asked.{arrival_joins}
use Rattle.si_judge.proofs.Beside.{among, history_among, mended_beside, same_among, shows_beside}
use Rattle.si_judge.proofs.states.KeyState.arrive.Goals as goal

pub arrive-requires : goal.arrive-requires
arrive-requires g c = (
  present_of c.self.inside.findings c.self.inside.parts,
  c.self.invariant c.in_ok-begin.ensures.ok,
  subst (λ s. s.spoiled ≡ false → IsOfHistory (arrived_on c.args.part s.present)) (sym c.self.view_is) c.requires c.in_ok-begin.ensures.ok,
)

pub insert-requires : goal.insert-requires
insert-requires g c =
    let Q = present_of c.self.inside.findings c.self.inside.parts in
    (arrival_joins c.args.part Q (subst (λ s. s.spoiled ≡ false → IsOfHistory (arrived_on c.args.part s.present)) (sym c.self.view_is) c.requires c.in_ok-begin.ensures.ok)).absent

module _ (g : _) (c : goal.After-self-1 g) where
  abbrev Q : OnKey
  Q = present_of c.self.inside.findings c.self.inside.parts

  abbrev R : OnKey
  R = among (arrived_on c.args.part Q) c.insert.new.self

  arrives : IsOfHistory (arrived_on c.args.part Q)
  arrives = subst (λ s. s.spoiled ≡ false → IsOfHistory (arrived_on c.args.part s.present)) (sym c.self.view_is) c.requires c.in_ok-begin.ensures.ok

  same : AreSameOnKey (arrived_on c.args.part Q) R
  same = same_among (arrived_on c.args.part Q) (arrived_on c.args.part Q) c.insert.new.self (record { initial = refl; parts = λ X. ((λ x. x), (λ x. x)) }) c.in_ok-insert.ensures.same

  shown : IsShown g.J.Judge.rules (IsTouched Q R c.args.part.id) R c.self.inside.findings c.arrive.new.self
  shown = c.in_ok-arrive.ensures.ok Q R (c.self.invariant c.in_ok-begin.ensures.ok) arrives same (history_among (arrived_on c.args.part Q) c.insert.new.self arrives c.in_ok-insert.ensures.same c.in_ok-insert.ensures.named)

pub invariant_of-self-2 : goal.invariant_of-self-2
invariant_of-self-2 g c = λ e. shows_beside g.J.Judge.rules (R g c) c.arrive.new.self c.insert.new.self (shown g c).shows refl

pub returns-clause-ok : goal.returns-clause-ok
returns-clause-ok g c =
    let T = c.args.part in
    let findings = c.arrive.new.self in
    subst (λ s. IsMended (IsTouched s.present (present_of findings c.insert.new.self) T.id) (arrived_on T s.present) s
    (record { key = findings.key; present = present_of findings c.insert.new.self; judged = findings.judged; spoiled = false })) c.self.view_is
    (mended_beside g.J.Judge.rules (λ N. IsTouched (Q g c) N T.id) (arrived_on T (Q g c)) (Q g c) (R g c) c.self.inside.findings findings c.insert.new.self c.self.inside.spoiled (shown g c)
    (same g c) refl c.arrive.ensures.key)
