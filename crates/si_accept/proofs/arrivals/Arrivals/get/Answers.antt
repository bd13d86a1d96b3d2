use Rattle.std.proofs.Common.{◌∙◌, ap, sym, nat_eq}
use Rattle.std.proofs.lemmas.Option.{get_or_from_slice_get}
use Rattle.std.specs.HashMap.{get, hash_map_len}
use Rattle.si_model.specs.declared.edits.Edit.TheVariants as edit
use Rattle.si_accept.specs.Arrivals.{present_at}
use Rattle.si_accept.proofs.PresentInJournal.{got, lacks}
use Rattle.si_accept.proofs.arrivals.Arrivals.get.Goals as goal

pub returns-in-Some : goal.returns-in-Some
returns-in-Some c =
    let journal = c.self.inside.journal.items in
    let ids = get nat_eq c.self.inside.places in
    let copies = get nat_eq c.self.inside.resolved in
    let place = c.in-Some.field-0.now in
    let at = sym c.in-Some.ensures.value in
    let r = c.self.invariant.arrived c.args.id.0 place at in
    rw (← c.self.view_is) (
    c.present_at.ensures
    ∙ ap (λ e. present_at ids copies (place, e)) (c.index.ensures ∙ get_or_from_slice_get journal place (edit.Arrive r.0) c.index.result.now r.1)
    ∙ sym (got journal ids copies (hash_map_len c.self.inside.places) c.self.invariant c.args.id place r.0 at r.1))

pub returns-in-None : goal.returns-in-None
returns-in-None c = rw (← c.self.view_is) (sym (lacks c.self.inside.journal.items (get nat_eq c.self.inside.places) (get nat_eq c.self.inside.resolved) (hash_map_len c.self.inside.places) c.self.invariant c.args.id (sym c.in-None.ensures.value)))
