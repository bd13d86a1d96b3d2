use Rattle.std.proofs.Common.{◌≡◌, ◌∙◌, ◌<◌, Some, arith, length, slice_get, sym, ap, subst, take}
use Rattle.std.proofs.lemmas.Option.{slice_get-get_or}
use Rattle.std.specs.Option.{option_copied}
use Rattle.si_shard.specs.AppliedEdits.{AreApplied}
use Rattle.si_shard.proofs.AppliedEach.{looked}
use Rattle.si_shard.proofs.Following.{is_next, taken_next}
use Rattle.si_shard.proofs.applied_edits.Applied.apply_between.Goals as goal

pub apply-requires-clause-next : goal.apply-requires-clause-next
apply-requires-clause-next c =
    let J = c.args.book.now.journal in
    let L = c.journal-journal.result.now in
    let i = c.loop-place.place in
    let e = c.index-journal-place.result in
    let same = c.journal-journal.ensures.journal in
    let lt : i < length J = (let t = c.loop-place-test.true in let w = c.requires.within in omega arith) in
    let at : slice_get J i ≡ Some e = ap (λ l. slice_get l i) (sym same) ∙ slice_get-get_or L i e (subst (λ l. i < length l) (sym same) lt) ∙ ap Some (sym c.index-journal-place.is) in (
      take i J,
      looked c.args.id (take i J) c.loop-place.self c.look_ahead_in.new.self c.loop-place.invariant c.look_ahead_in.ensures,
      is_next J i e (option_copied c.before-in-loop-place.result) c.journal-journal.ensures.accepted at (c.before-in-loop-place.ensures e at),
    )

pub loop-place-preserved : goal.loop-place-preserved
loop-place-preserved c =
    let J = c.args.book.now.journal in
    let L = c.journal-journal.result.now in
    let i = c.loop-place.place in
    let e = c.index-journal-place.result in
    let same = c.journal-journal.ensures.journal in
    let lt : i < length J = (let t = c.loop-place-test.true in let w = c.requires.within in omega arith) in
    let at : slice_get J i ≡ Some e = ap (λ l. slice_get l i) (sym same) ∙ slice_get-get_or L i e (subst (λ l. i < length l) (sym same) lt) ∙ ap Some (sym c.index-journal-place.is) in
    subst (λ l. AreApplied c.args.id l c.apply.new.self) (taken_next J i e at)
    (c.in_ok-apply.ensures (take i J) (looked c.args.id (take i J) c.loop-place.self c.look_ahead_in.new.self c.loop-place.invariant c.look_ahead_in.ensures)
    (is_next J i e (option_copied c.before-in-loop-place.result) c.journal-journal.ensures.accepted at (c.before-in-loop-place.ensures e at)))
