use Rattle.std.proofs.Common.{◌≡◌, ◌∙◌, ap, ◌++◌, ◌∷◌, [], cond, nat_eq, refl}
use Rattle.std.specs.HashMap.{get, hash_map_len}
use Rattle.std.specs.Result.{is_ok}
use Rattle.si_model.specs.declared.edits.Edit.TheVariants as edit
use Rattle.si_accept.proofs.PresentInJournal.{rest_txns, rest_kept}
use Rattle.si_accept.proofs.arrivals.Arrivals.set_up.Goals as goal

journal : (c : goal.After-unwrap) → c.push.new.self.items ≡ c.self.inside.journal.items ++ edit.SetUp c.args.key c.args.value ∷ []
journal c =
    c.push.ensures.items
    ∙ ap (λ r. cond (is_ok r) (c.self.inside.journal.items ++ edit.SetUp c.args.key c.args.value ∷ []) c.self.inside.journal.items) c.unwrap.ensures

pub invariant_of-self : goal.invariant_of-self
invariant_of-self c = rw (journal c) (rest_kept c.self.inside.journal.items (get nat_eq c.self.inside.places) (get nat_eq c.self.inside.resolved) (hash_map_len c.self.inside.places) c.self.invariant (edit.SetUp c.args.key c.args.value) refl)

pub returns-clause-txns : goal.returns-clause-txns
returns-clause-txns c = rw (journal c, ← c.self.view_is) (rest_txns c.self.inside.journal.items (get nat_eq c.self.inside.places) (get nat_eq c.self.inside.resolved) (hash_map_len c.self.inside.places) c.self.invariant (edit.SetUp c.args.key c.args.value) refl)
