use Rattle.std.proofs.Common.{◌≡◌, ◌<◌, Some, [], length, sym, subst, ◌∙◌}
use Rattle.std.specs.Prelude.{slice_index_or, slice_set}
use Rattle.std.specs.Ordering.{nat_cmp}
use Rattle.std.proofs.lemmas.List.{get_or_default}
use Rattle.si_sorted.specs.Entries.{Sets}
use Rattle.si_model.specs.declared.operations.Op.TheVariants as op
use Rattle.si_accept.specs.Writers.{SameWriters, SetsWriter, Written}
use Rattle.si_accept.proofs.KeyPlaces.{IsGrown, grown}
use Rattle.si_accept.proofs.WriterChanges.{IsSetAt, grown_same, has_place, ids_kept, ids_set, on_err, room_same, same_after, sets_after, still_placed, writer_set}
use Rattle.si_accept.proofs.writers.Writers.add.Goals as goal

pub returns-in_err-insert-clause-err : goal.returns-in_err-insert-clause-err
returns-in_err-insert-clause-err c =
    let keys = c.self.inside.keys in
    let ids = c.self.inside.ids.items in
    let n = c.in_ok-number.number in
    let x = c.in-Write.key in
    let mid : Written = record { keys = keys; ids = ids } in
    let new : Written = record { keys = c.add.new.self; ids = slice_set ids n c.insert.new.self } in
    let room : length keys < length ids = subst (λ (W : Written). length W.keys < length W.ids) (sym c.self.view_is) c.in_ok-make_room.ensures.ok.room in
    let below = has_place keys c.add.new.self ids x n c.in_ok-number.ensures.ok c.in_ok-number.ensures.number room in
    let list : c.insert.new.self ≡ slice_index_or ids n [] = c.in_err-insert.ensures.err ∙ c.index_mut.ensures.value ∙ get_or_default ids n c.index_mut.result.now [] below in
    let grows = subst (IsGrown keys) (sym c.in_ok-number.ensures.ok) (grown keys x) in
    let first = subst (SameWriters c.args.self.now) (sym c.self.view_is) (room_same c.args.self.now c.make_room.new.self c.in_ok-make_room.ensures.ok) in
    on_err c.from_residual-in_err-insert.result (SameWriters c.args.self.now new)
    (same_after c.args.self.now mid new first (grown_same mid new grows c.self.invariant (ids_kept keys c.add.new.self ids n c.insert.new.self below list)))

pub returns-in_ok-insert-clause-ok : goal.returns-in_ok-insert-clause-ok
returns-in_ok-insert-clause-ok c =
    let keys = c.self.inside.keys in
    let ids = c.self.inside.ids.items in
    let n = c.in_ok-number.number in
    let x = c.in-Write.key in
    let v = c.in-Write.value in
    let mid : Written = record { keys = keys; ids = ids } in
    let new : Written = record { keys = c.add.new.self; ids = slice_set ids n c.insert.new.self } in
    let room : length keys < length ids = subst (λ (W : Written). length W.keys < length W.ids) (sym c.self.view_is) c.in_ok-make_room.ensures.ok.room in
    let below = has_place keys c.add.new.self ids x n c.in_ok-number.ensures.ok c.in_ok-number.ensures.number room in
    let list : c.index_mut.result.now ≡ slice_index_or ids n [] = c.index_mut.ensures.value ∙ get_or_default ids n c.index_mut.result.now [] below in
    let change : IsSetAt n v (Some c.args.id) mid new = record {
      grown = subst (IsGrown keys) (sym c.in_ok-number.ensures.ok) (grown keys x);
      numbered = c.self.invariant;
      placed = still_placed keys c.add.new.self ids x n c.insert.new.self c.in_ok-number.ensures.ok room;
      ids = ids_set keys c.add.new.self ids n v (Some c.args.id.0) c.insert.new.self below (subst (λ es. Sets nat_cmp v.0 (Some c.args.id.0) es c.insert.new.self) list c.in_ok-insert.ensures.sets);
    } in
    let first = subst (SameWriters c.args.self.now) (sym c.self.view_is) (room_same c.args.self.now c.make_room.new.self c.in_ok-make_room.ensures.ok) in
    subst (λ p. SetsWriter p (Some c.args.id) c.args.self.now new) (sym c.in-Write.is)
    (sets_after (op.Write x v) (Some c.args.id) c.args.self.now mid new first (writer_set x v n (Some c.args.id) mid new change c.in_ok-number.ensures.number))
