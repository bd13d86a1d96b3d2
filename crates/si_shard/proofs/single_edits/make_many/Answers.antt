use Rattle.std.proofs.Common.{◌≡◌, ◌∙◌, ◌<◌, ◌≤◌, ◌+◌, ℕ, true, List, [], ◌∷◌, ◌++◌, length, slice_get, slice_index_or, Some, ap, sym, subst}
use Rattle.std.proofs.lemmas.Option.{slice_get_read, slice_get_within}
use Rattle.si_model.specs.declared.operations.Op.{Op}
use Rattle.si_model.specs.declared.parts.OnKey.{OnKey}
use Rattle.si_model.specs.declared.parts.Placed.{Placed}
use Rattle.si_model.specs.declared.parts.Access.{Access}
use Rattle.si_model.specs.Operations.{access_of}
use Rattle.si_shard.specs.AppliedEdits.{change_by}
use Rattle.si_shard.specs.KeyChanges.{CanChange}
use Rattle.si_shard.specs.KeyStates.{IsChangedAt, IsOn, KeepsNotesOf}
use Rattle.si_shard.specs.SingleEdits.{AreHashed, IsKeyAt, KeyPlace}
use Rattle.si_shard.proofs.EachKey.{AreMade, can_access, can_make_here, made_all, made_on, made_past, none_made, placed}
use Rattle.si_shard.proofs.single_edits.make_many.Goals as goal
use Rattle.si_shard.proofs.single_edits.make_many.Goals.{then-not-is_at+in_ok-make_here, else-not-is_at}

-- an element that was read from a list whose slice has that length
at_index : (list whole : List KeyPlace) (n i : ℕ) (d : KeyPlace) → whole ≡ list → length whole ≡ n → i < n → d ≡ slice_index_or list i d → slice_get list i ≡ Some d
at_index list whole n i d same long l is = slice_get_read list n i d (sym long ∙ ap length same) l is

-- the accesses so far with one more
pushed : (mid new hand : List Placed) (place : ℕ) (a : Access) (p : Op) → new ≡ mid → mid ≡ hand ++ record { place = place; access = a } ∷ [] → a ≡ access_of p → new ≡ hand ++ record { place = place; access = access_of p } ∷ []
pushed mid new hand place a p same is access = same ∙ is ∙ ap (λ b. hand ++ record { place = place; access = b } ∷ []) access

pub loop-index-init : goal.loop-index-init
loop-index-init c = (
  c.in_ok-list.ensures,
  subst (λ ys. AreMade c.args.id c.args.ops.now c.args.head c.args.edit.now c.in_ok-list.list.items c.in_ok-list.ensures 0 ys c.args.keys.now c.args.keys.now) (sym c.new-accesses.ensures)
      (none_made c.args.id c.args.ops.now c.args.head c.args.edit.now c.in_ok-list.list.items c.in_ok-list.ensures c.args.keys.now),
  λ found were. were,
)

pub access_at-requires : goal.access_at-requires
access_at-requires c =
    let list = c.in_ok-list.list.items in
    let d = c.index.result.now in
    let w = c.loop-index.invariant in
    let at = at_index list c.deref.result.now c.len-index-end.result c.loop-index.index d c.deref.ensures.value (c.deref.ensures.len ∙ sym c.len-index-end.ensures) c.loop-index-test.true c.index.ensures in
    slice_get_within c.args.ops.now d.2 _ (placed c.args.id c.args.ops.now c.args.head c.args.edit.now list w.0 c.loop-index.index d at).at

pub make_here-requires : goal.make_here-requires
make_here-requires c =
    let id = c.args.id in
    let ops = c.args.ops.now in
    let h = c.args.head in
    let e = c.args.edit.now in
    let list = c.in_ok-list.list.items in
    let i = c.loop-index.index in
    let d = c.index.result.now in
    let w = c.loop-index.invariant in
    let p = c.access_at.ensures.0 in
    let at = at_index list c.deref.result.now c.len-index-end.result i d c.deref.ensures.value (c.deref.ensures.len ∙ sym c.len-index-end.ensures) c.loop-index-test.true c.index.ensures in
    let all = pushed c.push.new.self c.replace-all.result c.loop-index.accesses d.2 c.access_at.result p c.replace-all.ensures.value c.in_ok-push.ensures.ok c.access_at.ensures.2 in
    let last : IsKeyAt list (i + 1) d.1.now → ⊥ = λ k. (let yes : c.is_at.result ≡ true = c.is_at.ensures.1 (subst (λ l. IsKeyAt l (i + 1) d.1.now) (sym c.deref-in-loop-index.ensures.value) k) in let no = c.if-not-is_at.true in cc) in
    subst (λ g. (Q : OnKey) × IsOn c.loop-index.keys d.1.now Q × CanChange g Q) (sym (ap (change_by h e) all))
    (can_make_here id ops h e list w.0 i d at p c.access_at.ensures.1 c.loop-index.accesses c.args.keys.now c.loop-index.keys w.1 last (can_access id ops h e c.args.keys.now c.requires.other c.requires.can))

pub loop-index-preserved : goal.loop-index-preserved
loop-index-preserved c =
    let id = c.args.id in
    let ops = c.args.ops.now in
    let h = c.args.head in
    let e = c.args.edit.now in
    let list = c.in_ok-list.list.items in
    let i = c.loop-index.index in
    let d = c.index.result.now in
    let w = c.loop-index.invariant in
    let p = c.access_at.ensures.0 in
    let old = c.args.keys.now in
    let mid = c.loop-index.keys in
    let hand = c.loop-index.accesses in
    let at = at_index list c.deref.result.now c.len-index-end.result i d c.deref.ensures.value (c.deref.ensures.len ∙ sym c.len-index-end.ensures) c.loop-index-test.true c.index.ensures in
    let key_at = ap (λ l. IsKeyAt l (i + 1) d.1.now) c.deref-in-loop-index.ensures.value in
    elim c.if-not-is_at.branch [
      | then-not-is_at+in_ok-make_here x ↦
          let all = pushed c.push.new.self x.replace-all.result hand d.2 c.access_at.result p x.replace-all.ensures.value c.in_ok-push.ensures.ok c.access_at.ensures.2 in
          let last : IsKeyAt list (i + 1) d.1.now → ⊥ = λ k. (let yes : c.is_at.result ≡ true = c.is_at.ensures.1 (subst (λ l. IsKeyAt l (i + 1) d.1.now) (sym c.deref-in-loop-index.ensures.value) k) in let no = x.if-not-is_at.true in cc) in (
            w.0,
            subst (λ ys. AreMade id ops h e list w.0 (i + 1) ys old c.if-not-is_at.keys) (sym (x.accesses-is ∙ x.replace-all.ensures.after ∙ x.new.ensures))
                (subst (AreMade id ops h e list w.0 (i + 1) [] old) (sym x.keys-is)
                (made_on id ops h e list w.0 i d at p c.access_at.ensures.1 hand old mid w.1 last x.make_here.new.keys
                (subst (λ g. IsChangedAt d.1.now g mid x.make_here.new.keys) (ap (change_by h e) all) x.in_ok-make_here.ensures.made))),
            subst (KeepsNotesOf old) (sym x.keys-is) (λ found were. x.in_ok-make_here.ensures.noted found (w.2 found were)),
          )
      | else-not-is_at x ↦
          let next : IsKeyAt list (i + 1) d.1.now = subst (λ l. IsKeyAt l (i + 1) d.1.now) c.deref-in-loop-index.ensures.value (c.is_at.ensures.0 (let yes = x.if-not-is_at.false in cc)) in
          let all = pushed c.push.new.self c.if-not-is_at.accesses hand d.2 c.access_at.result p x.accesses-is c.in_ok-push.ensures.ok c.access_at.ensures.2 in (
            w.0,
            subst (λ ys. AreMade id ops h e list w.0 (i + 1) ys old c.if-not-is_at.keys) (sym all)
                (subst (AreMade id ops h e list w.0 (i + 1) _ old) (sym x.keys-is)
                (made_past id ops h e list w.0 i d at p c.access_at.ensures.1 hand old mid w.1 next)),
            subst (KeepsNotesOf old) (sym x.keys-is) w.2,
          )
    ]

pub returns-clause-made : goal.returns-clause-made
returns-clause-made c =
    let w = c.loop-index.invariant in
    let end : length c.in_ok-list.list.items ≤ c.loop-index.index = subst (λ n. n ≤ c.loop-index.index) (c.len-index-end.ensures ∙ c.in_ok-list.list.ok.0) c.loop-index-test.false in
    made_all c.args.id c.args.ops.now c.args.head c.in_ok-list.list.items w.0 c.args.edit.now c.requires.other c.loop-index.index end c.loop-index.accesses c.args.keys.now c.loop-index.keys w.1

pub is_at-requires : goal.is_at-requires
is_at-requires c = subst AreHashed (sym c.deref-in-loop-index.ensures.value) c.loop-index.invariant.0.hashed
