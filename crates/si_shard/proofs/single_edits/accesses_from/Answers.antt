use Rattle.std.proofs.Common.{◌≡◌, ◌∙◌, ℕ, ◌++◌, ◌∷◌, [], drop, length, ap, refl, subst, sym}
use Rattle.std.proofs.lemmas.Option.{slice_get_read}
use Rattle.si_lists.proofs.Members.{same_some}
use Rattle.si_model.specs.declared.operations.Op.{Op}
use Rattle.si_model.specs.declared.parts.Placed.{Placed}
use Rattle.si_model.specs.Operations.{access_of}
use Rattle.si_model.specs.Parts.{accesses}
use Rattle.si_shard.proofs.EachFirst.{accesses_on, found_first, found_more, found_past}
use Rattle.si_shard.proofs.single_edits.accesses_from.Goals as goal
use Rattle.si_shard.proofs.single_edits.accesses_from.Goals.{then-has_key+in_ok-push-2, else-has_key}

abbrev placed : ℕ → Op → Placed
placed i q = record { place = i; access = access_of q }

pub loop-place-init : goal.loop-place-init
loop-place-init c = found_first c.args.key.now c.args.first c.args.ops.now c.push.new.self c.placed_at.result c.requires.first c.requires.none c.placed_at.ensures
    (c.in_ok-push.ensures.ok ∙ ap (λ l. l ++ c.placed_at.result ∷ []) c.new-found.ensures)

pub loop-place-preserved : goal.loop-place-preserved
loop-place-preserved c =
    let x = c.args.key.now in
    let ops = c.args.ops.now in
    let i = c.loop-place.place in
    let p = c.index-ops-place.result in
    let at = slice_get_read ops (length ops) i p refl c.loop-place-test.true c.index-ops-place.is in
    elim c.if-has_key.branch [
      | then-has_key+in_ok-push-2 w ↦
          let r = w.placed_at-then-has_key in
          let same = same_some (sym r.ensures.1 ∙ at) in
          found_more x i ops p (accesses x ops) c.loop-place.found c.if-has_key.found r.result at (sym c.has_key.ensures ∙ w.if-has_key.true) c.loop-place.invariant
          (r.ensures.2 ∙ ap (placed i) same) (w.found-is ∙ w.in_ok-push-2.ensures.ok)
      | else-has_key w ↦
          found_past x i ops p (accesses x ops) c.if-has_key.found at (sym c.has_key.ensures ∙ w.if-has_key.false) (subst (λ l. l ++ accesses_on x i (drop i ops) ≡ accesses x ops) (sym w.found-is) c.loop-place.invariant)
    ]
