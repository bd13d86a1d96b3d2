use Rattle.std.proofs.Common.{◌≡◌, ◌∙◌, ap, subst, ℕ, ◌++◌, ◌∷◌, [], Some, cond, nat_eq}
use Rattle.std.specs.HashMap.{get, hash_map_len, Updates}
use Rattle.std.specs.Result.{is_ok, OnOk}
use Rattle.si_model.specs.declared.edits.Edit.TheVariants as edit
use Rattle.si_model.specs.Edits.{with_id, status_after}
use Rattle.si_accept.specs.Arrivals.{present_in}
use Rattle.si_accept.proofs.PresentInJournal.{resolution_txns, resolution_kept}
use Rattle.si_accept.proofs.arrivals.Arrivals.resolve.Goals as goal

journal : (c : goal.After-unwrap-2) → c.push.new.self.items ≡ c.self.inside.journal.items ++ edit.Resolve c.args.copy.id c.args.outcome ∷ []
journal c =
    c.push.ensures.items
    ∙ ap (λ r. cond (is_ok r) (c.self.inside.journal.items ++ edit.Resolve c.args.copy.id c.args.outcome ∷ []) c.self.inside.journal.items) c.unwrap-2.ensures

there : (c : goal.After-unwrap-2) → with_id (present_in (get nat_eq c.self.inside.places) (get nat_eq c.self.inside.resolved) c.self.inside.journal.items) c.args.copy.id ≡ Some c.args.copy
there c = ap (λ K. with_id K.txns c.args.copy.id) c.self.view_is ∙ c.requires.there

copies : (c : goal.After-unwrap-2) (q : ℕ) → get nat_eq c.insert.new.self q ≡ cond (nat_eq c.args.copy.id.0 q) (Some (record c.args.copy { status = status_after c.args.outcome })) (get nat_eq c.self.inside.resolved q)
copies c q =
    (subst (λ r. OnOk r (Updates nat_eq c.self.inside.resolved c.insert.new.self c.args.copy.id.0 (Some (record c.args.copy { status = c.status-copy.result })))) c.unwrap.ensures c.insert.ensures.updates).0 q
    ∙ ap (λ s. cond (nat_eq c.args.copy.id.0 q) (Some (record c.args.copy { status = s })) (get nat_eq c.self.inside.resolved q)) c.status-copy.ensures

pub invariant_of-self : goal.invariant_of-self
invariant_of-self c = rw (journal c) (resolution_kept c.self.inside.journal.items (get nat_eq c.self.inside.places) (get nat_eq c.self.inside.resolved) (hash_map_len c.self.inside.places) c.self.invariant c.args.copy c.args.outcome (get nat_eq c.insert.new.self) (there c) (copies c))

pub returns-clause-txns : goal.returns-clause-txns
returns-clause-txns c = rw (journal c, ← c.self.view_is) (resolution_txns c.self.inside.journal.items (get nat_eq c.self.inside.places) (get nat_eq c.self.inside.resolved) (hash_map_len c.self.inside.places) c.self.invariant c.args.copy c.args.outcome (get nat_eq c.insert.new.self) (there c) (copies c))
