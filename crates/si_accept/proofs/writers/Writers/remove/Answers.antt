use Rattle.std.proofs.Common.{◌≡◌, ◌<◌, None, [], length, sym, subst, ◌∙◌, arith}
use Rattle.std.specs.Prelude.{slice_index_or}
use Rattle.std.specs.Ordering.{nat_cmp}
use Rattle.std.proofs.lemmas.List.{get_or_default}
use Rattle.si_sorted.specs.Entries.{Sets}
use Rattle.si_accept.proofs.KeyPlaces.{number_is_below}
use Rattle.si_accept.proofs.WriterChanges.{numbered_set, taken_out, writer_set}
use Rattle.si_accept.proofs.writers.Writers.remove.Goals as goal

pub invariant_of-self : goal.invariant_of-self
invariant_of-self c =
    let keys = c.self.inside.keys in
    let ids = c.self.inside.ids.items in
    let n = c.in-Some.number in
    let within = number_is_below keys c.in-Write.key n (sym c.in-Some.ensures) in
    let placed = c.self.invariant.placed in
    let below : n < length ids = omega arith in
    let list : c.index_mut.result.now ≡ slice_index_or ids n [] = c.index_mut.ensures.value ∙ get_or_default ids n c.index_mut.result.now [] below in
    let sets = subst (λ es. Sets nat_cmp c.in-Write.value.0 None es c.remove.new.self) list c.remove.ensures in
    numbered_set c.in-Write.key c.in-Write.value _ _ _ _ (taken_out keys ids c.in-Write.key n c.in-Write.value c.remove.new.self c.self.invariant (sym c.in-Some.ensures) sets) (sym c.in-Some.ensures)

pub returns-in-Some : goal.returns-in-Some
returns-in-Some c =
    let keys = c.self.inside.keys in
    let ids = c.self.inside.ids.items in
    let n = c.in-Some.number in
    let within = number_is_below keys c.in-Write.key n (sym c.in-Some.ensures) in
    let placed = c.self.invariant.placed in
    let below : n < length ids = omega arith in
    let list : c.index_mut.result.now ≡ slice_index_or ids n [] = c.index_mut.ensures.value ∙ get_or_default ids n c.index_mut.result.now [] below in
    let sets = subst (λ es. Sets nat_cmp c.in-Write.value.0 None es c.remove.new.self) list c.remove.ensures in
    rw (c.in-Write.is, ← c.self.view_is)
    (writer_set c.in-Write.key c.in-Write.value _ _ _ _ (taken_out keys ids c.in-Write.key n c.in-Write.value c.remove.new.self c.self.invariant (sym c.in-Some.ensures) sets) (sym c.in-Some.ensures))
