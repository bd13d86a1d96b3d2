use Rattle.std.proofs.Common.{◌∙◌, ◌+◌, length, ap, refl, subst, sym, take}
use Rattle.std.proofs.lemmas.Option.{slice_get_read}
use Rattle.si_model.specs.declared.parts.OnKey.{OnKey}
use Rattle.si_model.specs.Operations.{key_of}
use Rattle.si_model.specs.Parts.{accesses}
use Rattle.si_shard.specs.AppliedEdits.{change_by}
use Rattle.si_shard.specs.KeyChanges.{CanChange}
use Rattle.si_shard.specs.KeyStates.{IsChangedAt, IsOn, KeepsNotesOf}
use Rattle.si_shard.specs.SingleEdits.{is_accessed, is_first}
use Rattle.si_shard.proofs.EachFirst.{AreMadeBefore, all_made, can_make_first, first, made_first, made_past, none_made}
use Rattle.si_shard.proofs.EachKey.{can_access}
use Rattle.si_shard.proofs.single_edits.make_few.Goals as goal
use Rattle.si_shard.proofs.single_edits.make_few.Goals.{then-is_first+in_ok-accesses+in_ok-make_here, else-is_first}

pub loop-place-init : goal.loop-place-init
loop-place-init c = (none_made c.args.id c.args.ops.now c.args.head c.args.edit.now c.args.keys.now, λ found were. were)

pub loop-place-preserved : goal.loop-place-preserved
loop-place-preserved c =
    let id = c.args.id in
    let ops = c.args.ops.now in
    let h = c.args.head in
    let e = c.args.edit.now in
    let i = c.loop-place.place in
    let p = c.index-ops-place.result in
    let old = c.args.keys.now in
    let mid = c.loop-place.keys in
    let at = slice_get_read ops (length ops) i p refl c.loop-place-test.true c.index-ops-place.is in
    let test = sym (ap (is_first id (take i ops)) c.key-key.ensures) ∙ sym c.is_first.ensures in
    elim c.if-is_first.branch [
      | then-is_first+in_ok-accesses+in_ok-make_here w ↦
          let same = w.in_ok-accesses.ensures ∙ ap (λ x. accesses x ops) c.key-key.ensures in
          let changed = subst (λ x. IsChangedAt x (change_by h e w.in_ok-accesses.accesses) mid w.make_here.new.keys) c.key-key.ensures w.in_ok-make_here.ensures.made in (
            subst (AreMadeBefore id ops h e (i + 1) old) (sym w.keys-is)
                (made_first id ops h e i p at old mid c.loop-place.invariant.0 (test ∙ w.if-is_first.true) w.make_here.new.keys
                (subst (λ ys. IsChangedAt (key_of p) (change_by h e ys) mid w.make_here.new.keys) same changed)),
            subst (KeepsNotesOf old) (sym w.keys-is) (λ found were. w.in_ok-make_here.ensures.noted found (c.loop-place.invariant.1 found were)),
          )
      | else-is_first w ↦ (
        subst (AreMadeBefore id ops h e (i + 1) old) (sym w.keys-is) (made_past id ops h e i p at old mid c.loop-place.invariant.0 (test ∙ w.if-is_first.false)),
        subst (KeepsNotesOf old) (sym w.keys-is) c.loop-place.invariant.1,
      )
    ]

pub accesses_from-requires-clause-none : goal.accesses_from-requires-clause-none
accesses_from-requires-clause-none c =
    let ops = c.args.ops.now in
    let i = c.loop-place.place in
    let p = c.index-ops-place.result in
    let at = slice_get_read ops (length ops) i p refl c.loop-place-test.true c.index-ops-place.is in
    let test = sym (ap (is_first c.args.id (take i ops)) c.key-key.ensures) ∙ sym c.is_first.ensures ∙ c.if-is_first.true in
    ap (is_accessed (take i ops)) c.key-key.ensures ∙ first c.args.id ops c.args.head c.args.edit.now i p at c.args.keys.now c.loop-place.keys c.loop-place.invariant.0 test

pub make_here-requires : goal.make_here-requires
make_here-requires c =
    let id = c.args.id in
    let ops = c.args.ops.now in
    let h = c.args.head in
    let e = c.args.edit.now in
    let i = c.loop-place.place in
    let p = c.index-ops-place.result in
    let mid = c.loop-place.keys in
    let at = slice_get_read ops (length ops) i p refl c.loop-place-test.true c.index-ops-place.is in
    let test = sym (ap (is_first id (take i ops)) c.key-key.ensures) ∙ sym c.is_first.ensures ∙ c.if-is_first.true in
    let made = can_make_first id ops h e i p at c.args.keys.now mid c.loop-place.invariant.0 test (can_access id ops h e c.args.keys.now c.requires.other c.requires.can) in
    let same = c.in_ok-accesses.ensures ∙ ap (λ x. accesses x ops) c.key-key.ensures in
    subst (λ ys. (Q : OnKey) × IsOn mid c.key-key.result.now Q × CanChange (change_by h e ys) Q) (sym same)
    (subst (λ x. (Q : OnKey) × IsOn mid x Q × CanChange (change_by h e (accesses (key_of p) ops)) Q) (sym c.key-key.ensures) made)

pub returns-clause-made : goal.returns-clause-made
returns-clause-made c = all_made c.args.id c.args.ops.now c.args.head c.args.edit.now c.requires.other c.loop-place.place c.loop-place-test.false c.args.keys.now c.loop-place.keys c.loop-place.invariant.0
