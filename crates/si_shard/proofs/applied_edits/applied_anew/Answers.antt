use Rattle.std.proofs.Common.{◌≡◌, ◌∙◌, ◌≤◌, Some, arith, length, nat_eq, slice_get, sym, ap, subst, take}
use Rattle.std.specs.HashMap.{get}
use Rattle.std.proofs.lemmas.List.{take_all}
use Rattle.std.proofs.lemmas.Option.{slice_get-get_or}
use Rattle.std.specs.Option.{option_copied}
use Rattle.si_shard.specs.AppliedEdits.{AreApplied, IsNext}
use Rattle.si_shard.specs.PresentTxns.{AreById}
use Rattle.si_shard.proofs.ById.{asked_is, entered}
use Rattle.si_shard.proofs.Following.{is_next, taken_next}
use Rattle.si_shard.proofs.applied_edits.applied_anew.Goals as goal

-- the edit that is looked at comes next, and its transaction was asked for
next : (c : goal.After-as_ref) → IsNext (take c.loop-place.place c.args.edits.now) c.index-edits-place.result (option_copied c.as_ref.result)
next c =
    let edits = c.args.edits.now in
    let i = c.loop-place.place in
    let e = c.index-edits-place.result in
    let at : slice_get edits i ≡ Some e = slice_get-get_or edits i e c.loop-place-test.true ∙ ap Some (sym c.index-edits-place.is) in
    is_next edits i e (option_copied c.as_ref.result) c.requires.accepted at
    (c.as_ref.ensures.value ∙ c.in_ok-before.ensures.before ∙ asked_is (take i edits) (get nat_eq c.loop-place.present.by_id) c.loop-place.invariant.1 e)

pub apply-requires-clause-next : goal.apply-requires-clause-next
apply-requires-clause-next c = (take c.loop-place.place c.args.edits.now, c.loop-place.invariant.0, next c)

pub loop-place-preserved : goal.loop-place-preserved
loop-place-preserved c =
    let edits = c.args.edits.now in
    let i = c.loop-place.place in
    let e = c.index-edits-place.result in
    let at : slice_get edits i ≡ Some e = slice_get-get_or edits i e c.loop-place-test.true ∙ ap Some (sym c.index-edits-place.is) in
    let old = get nat_eq c.loop-place.present.by_id in
    let is = is_next edits i e (option_copied c.as_ref.result) c.requires.accepted at (c.as_ref.ensures.value ∙ c.in_ok-before.ensures.before ∙ asked_is (take i edits) old c.loop-place.invariant.1 e) in (
      subst (λ l. AreApplied c.args.id l c.apply.new.self) (taken_next edits i e at) (c.in_ok-apply.ensures (take i edits) c.loop-place.invariant.0 is),
      subst (λ l. AreById l (get nat_eq c.enter.new.self.by_id)) (taken_next edits i e at) (entered (take i edits) old (get nat_eq c.enter.new.self.by_id) c.loop-place.invariant.1 e is.accepted c.in_ok-before.ensures.entered),
    )

pub returns-clause-applied : goal.returns-clause-applied
returns-clause-applied c =
    let edits = c.args.edits.now in
    let all : length edits ≤ c.loop-place.place = (let t = c.loop-place-test.false in omega arith) in
    c.in_ok-settle.ensures c.args.id edits (subst (λ l. AreApplied c.args.id l c.loop-place.applied) (take_all c.loop-place.place edits all) c.loop-place.invariant.0)

pub returns-clause-present : goal.returns-clause-present
returns-clause-present c =
    let edits = c.args.edits.now in
    let all : length edits ≤ c.loop-place.place = (let t = c.loop-place-test.false in omega arith) in
    subst (λ l. AreById l (get nat_eq c.loop-place.present.by_id)) (take_all c.loop-place.place edits all) c.loop-place.invariant.1
