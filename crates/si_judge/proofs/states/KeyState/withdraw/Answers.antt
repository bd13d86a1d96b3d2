use Rattle.std.proofs.Common.{false, inl, refl, subst}
use Rattle.si_model.specs.declared.parts.OnKey.{OnKey}
use Rattle.si_model.specs.KeyEdits.{withdrawn_on}
use Rattle.si_judge.specs.Indexes.{Joins}
use Rattle.si_judge.specs.Kept.{IsShown}
use Rattle.si_judge.specs.States.{AreSameOnKey, IsMended, present_of}
use Rattle.si_judge.specs.Touched.{IsTouched}
use Rattle.si_judge.proofs.Asked.{same_without, withdrawal_joins}
use Rattle.si_judge.proofs.Beside.{joins_rest, mended_beside, shows_beside, taken_there, without}
use Rattle.si_judge.proofs.Coming.{history_within}
use Rattle.si_judge.proofs.states.KeyState.withdraw.Goals as goal

pub withdraw-requires : goal.withdraw-requires
withdraw-requires g c =
    let Q = present_of c.self.inside.findings c.self.inside.parts in
    (Q, c.self.invariant c.in_ok-begin.ensures.ok, taken_there c.remove-part.result (without Q c.remove-part.new.self) Q (joins_rest c.remove-part.result Q c.remove-part.new.self c.remove-part.ensures.left))

module _ (g : _) (c : goal.Joined-part-2 g) where
  abbrev Q : OnKey
  Q = present_of c.self.inside.findings c.self.inside.parts

  abbrev R : OnKey
  R = without Q c.remove-part.new.self

  joins : Joins c.remove-part.result R Q
  joins = joins_rest c.remove-part.result Q c.remove-part.new.self c.remove-part.ensures.left

  same : AreSameOnKey (withdrawn_on c.remove-part.result.id Q) R
  same =
      let T = c.remove-part.result in
      same_without T (withdrawn_on T.id Q) R Q (withdrawal_joins T Q (c.self.invariant c.in_ok-begin.ensures.ok).indexes.history (taken_there T R Q joins)) joins

  shown : IsShown g.J.Judge.rules (IsTouched Q R c.remove-part.result.id) R c.self.inside.findings c.withdraw.new.self
  shown =
      let shows = c.self.invariant c.in_ok-begin.ensures.ok in
      c.in_ok-withdraw.ensures.ok Q R shows (taken_there c.remove-part.result R Q joins) same
      (history_within Q R shows.indexes.history refl (λ X h. (joins.parts X).1 (inl h)) c.remove-part.ensures.named)

pub invariant_of-self-2 : goal.invariant_of-self-2
invariant_of-self-2 g c = λ e. shows_beside g.J.Judge.rules (R g c) c.withdraw.new.self c.remove-part.new.self (shown g c).shows refl

pub returns-clause-ok : goal.returns-clause-ok
returns-clause-ok g c =
    let findings = c.withdraw.new.self in
    let parts = c.remove-part.new.self in
    subst (λ s. IsMended (IsTouched s.present (present_of findings parts) c.args.id) (withdrawn_on c.args.id s.present) s
    (record { key = findings.key; present = present_of findings parts; judged = findings.judged; spoiled = false })) c.self.view_is
    (subst (λ u. IsMended (IsTouched (Q g c) (present_of findings parts) u) (withdrawn_on u (Q g c)) (record { key = c.self.inside.findings.key; present = Q g c; judged = c.self.inside.findings.judged; spoiled = c.self.inside.spoiled })
    (record { key = findings.key; present = present_of findings parts; judged = findings.judged; spoiled = false })) c.remove-part.ensures.id
    (mended_beside g.J.Judge.rules (λ N. IsTouched (Q g c) N c.remove-part.result.id) (withdrawn_on c.remove-part.result.id (Q g c)) (Q g c) (R g c) c.self.inside.findings findings parts c.self.inside.spoiled (shown g c)
    (same g c) refl c.withdraw.ensures.key))
