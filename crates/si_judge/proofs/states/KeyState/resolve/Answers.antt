use Rattle.std.proofs.Common.{◌≡◌, ◌≢◌, false, refl, subst, sym}
use Rattle.std.specs.List.{Contains}
use Rattle.si_model.specs.declared.parts.OnKey.{OnKey}
use Rattle.si_model.specs.declared.parts.Part.{Part}
use Rattle.si_model.specs.Edits.{status_after}
use Rattle.si_model.specs.KeyEdits.{arrived_on, resolved_on}
use Rattle.si_model.specs.History.{IsOfHistory}
use Rattle.si_model.specs.Laws.{HaveSame}
use Rattle.si_judge.specs.Indexes.{Joins}
use Rattle.si_judge.specs.Kept.{IsInDoubt, IsShown}
use Rattle.si_judge.specs.States.{AreSameOnKey, HasDoubt, IsMended, present_of}
use Rattle.si_judge.specs.Touched.{IsTouched}
use Rattle.si_judge.proofs.Beside.{among, asked_of, history_among, joins_rest, mended_beside, resolved_history, resolved_same, same_among, shows_beside, without}
use Rattle.si_judge.proofs.states.KeyState.resolve.Goals as goal

pub remove-part-requires : goal.remove-part-requires
remove-part-requires g c =
    let of_id = subst (λ s. s.spoiled ≡ false → HasDoubt s.present c.args.id × IsOfHistory (resolved_on c.args.id c.args.outcome s.present)) (sym c.self.view_is) c.requires c.in_ok-begin.ensures.ok in
    (of_id.0.0, of_id.0.1, of_id.0.2)

pub resolve-requires : goal.resolve-requires
resolve-requires g c =
    let T = c.remove-part.result in
    let Q = present_of c.self.inside.findings c.self.inside.parts in
    let shows = c.self.invariant c.in_ok-begin.ensures.ok in
    let of_id = subst (λ s. s.spoiled ≡ false → HasDoubt s.present c.args.id × IsOfHistory (resolved_on c.args.id c.args.outcome s.present)) (sym c.self.view_is) c.requires c.in_ok-begin.ensures.ok in
    let asked = asked_of T (without Q c.remove-part.new.self) Q c.args.id c.args.outcome shows.indexes.history (joins_rest T Q c.remove-part.new.self c.remove-part.ensures.left) c.remove-part.ensures.id of_id in
    (Q, shows, asked.0, asked.1)

pub insert-requires : goal.insert-requires
insert-requires g c = subst (λ P. (X : Part) → Contains c.remove-part.new.self X → X.id ≢ P.id) (sym c.in_ok-resolve.ensures.part) c.remove-part.ensures.left.absent

module _ (g : _) (c : goal.After-self-1 g) where
  abbrev Q : OnKey
  Q = present_of c.self.inside.findings c.self.inside.parts

  abbrev T : Part
  T = c.remove-part.result

  -- what is left, and then the resolved transaction
  abbrev N : OnKey
  N = arrived_on (record T { status = status_after c.args.outcome }) (without Q c.remove-part.new.self)

  abbrev R : OnKey
  R = among N c.insert.new.self

  joins : Joins T (without Q c.remove-part.new.self) Q
  joins = joins_rest T Q c.remove-part.new.self c.remove-part.ensures.left

  asked : IsInDoubt T Q × IsOfHistory (resolved_on T.id c.args.outcome Q)
  asked =
      let of_id = subst (λ s. s.spoiled ≡ false → HasDoubt s.present c.args.id × IsOfHistory (resolved_on c.args.id c.args.outcome s.present)) (sym c.self.view_is) c.requires c.in_ok-begin.ensures.ok in
      asked_of T (without Q c.remove-part.new.self) Q c.args.id c.args.outcome (c.self.invariant c.in_ok-begin.ensures.ok).indexes.history joins c.remove-part.ensures.id of_id

  have : HaveSame N.parts c.insert.new.self
  have = subst (λ P. HaveSame (arrived_on P (without Q c.remove-part.new.self)).parts c.insert.new.self) c.in_ok-resolve.ensures.part c.in_ok-insert.ensures.same

  same : AreSameOnKey (resolved_on T.id c.args.outcome Q) R
  same = same_among (resolved_on T.id c.args.outcome Q) N c.insert.new.self (resolved_same T (without Q c.remove-part.new.self) Q c.args.outcome joins) have

  shown : IsShown g.J.Judge.rules (IsTouched Q R T.id) R c.self.inside.findings c.resolve.new.self
  shown = c.in_ok-resolve.ensures.ok Q R (c.self.invariant c.in_ok-begin.ensures.ok) asked.0 same
      (history_among N c.insert.new.self (resolved_history T (without Q c.remove-part.new.self) Q c.args.outcome joins c.remove-part.ensures.named asked.1) have c.in_ok-insert.ensures.named)

pub invariant_of-self-2 : goal.invariant_of-self-2
invariant_of-self-2 g c = λ e. shows_beside g.J.Judge.rules (R g c) c.resolve.new.self c.insert.new.self (shown g c).shows refl

pub returns-clause-ok : goal.returns-clause-ok
returns-clause-ok g c =
    let findings = c.resolve.new.self in
    let parts = c.insert.new.self in
    let o = c.args.outcome in
    subst (λ s. IsMended (IsTouched s.present (present_of findings parts) c.args.id) (resolved_on c.args.id o s.present) s
    (record { key = findings.key; present = present_of findings parts; judged = findings.judged; spoiled = false })) c.self.view_is
    (subst (λ u. IsMended (IsTouched (Q g c) (present_of findings parts) u) (resolved_on u o (Q g c)) (record { key = c.self.inside.findings.key; present = Q g c; judged = c.self.inside.findings.judged; spoiled = c.self.inside.spoiled })
    (record { key = findings.key; present = present_of findings parts; judged = findings.judged; spoiled = false })) c.remove-part.ensures.id
    (mended_beside g.J.Judge.rules (λ N. IsTouched (Q g c) N (T g c).id) (resolved_on (T g c).id o (Q g c)) (Q g c) (R g c) c.self.inside.findings findings parts c.self.inside.spoiled (shown g c)
    (same g c) refl c.resolve.ensures.key))
