use Rattle.std.proofs.Common.{◌≡◌, ◌∙◌, ◌+◌, Some, arith, length, slice_get, sym, ap, subst, take}
use Rattle.std.proofs.lemmas.Option.{slice_get-get_or}
use Rattle.std.specs.Option.{option_copied}
use Rattle.si_shard.specs.AppliedEdits.{AreApplied}
use Rattle.si_shard.proofs.AppliedEach.{looked}
use Rattle.si_shard.proofs.Following.{is_next, taken_next}
use Rattle.si_shard.proofs.applied_edits.Applied.apply_told.Goals as goal

pub loop-place-init : goal.loop-place-init
loop-place-init c = λ J p accepted told sound.
    let none : p ≡ p + 0 = omega arith in
    subst (λ n. AreApplied c.args.id (take n J) c.args.self.now) none sound

pub apply-requires-clause-next : goal.apply-requires-clause-next
apply-requires-clause-next c =
    let n = c.requires.told in
    let i = c.loop-place.place in
    let t = c.index-edits-place.result in
    let at : slice_get c.args.edits.now i ≡ Some t = slice_get-get_or c.args.edits.now i t c.loop-place-test.true ∙ ap Some (sym c.index-edits-place.is) in
    let is = n.3.each i t at in (
      take (n.1 + i) n.0,
      looked c.args.id (take (n.1 + i) n.0) c.loop-place.self c.look_ahead.new.self (c.loop-place.invariant n.0 n.1 n.2 n.3 n.4) c.look_ahead.ensures,
      is_next n.0 (n.1 + i) t.edit (option_copied c.as_ref.result) n.2 is.edit (c.as_ref.ensures.value ∙ is.before),
    )

pub loop-place-preserved : goal.loop-place-preserved
loop-place-preserved c = λ J p accepted told sound.
    let i = c.loop-place.place in
    let t = c.index-edits-place.result in
    let at : slice_get c.args.edits.now i ≡ Some t = slice_get-get_or c.args.edits.now i t c.loop-place-test.true ∙ ap Some (sym c.index-edits-place.is) in
    let is = told.each i t at in
    let sum : p + i + 1 ≡ p + (i + 1) = omega arith in
    subst (λ l. AreApplied c.args.id l c.apply.new.self) (taken_next J (p + i) t.edit is.edit ∙ ap (λ n. take n J) sum)
    (c.in-Ok.ensures (take (p + i) J) (looked c.args.id (take (p + i) J) c.loop-place.self c.look_ahead.new.self (c.loop-place.invariant J p accepted told sound) c.look_ahead.ensures)
    (is_next J (p + i) t.edit (option_copied c.as_ref.result) accepted is.edit (c.as_ref.ensures.value ∙ is.before)))

pub returns-clause-whole : goal.returns-clause-whole
returns-clause-whole c = λ all J p accepted told sound.
    let end : c.loop-place.place ≡ length c.args.edits.now = (let e = c.loop-place.auto.place-end in let t = c.loop-place-test.false in omega arith) in
    subst (λ n. AreApplied c.args.id (take (p + n) J) c.loop-place.self) end (c.loop-place.invariant J p accepted told sound)
