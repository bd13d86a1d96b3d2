use Rattle.std.proofs.Common.{◌≡◌, ◌∙◌, ap, sym, ◌+◌, ◌++◌, ◌∷◌, [], Option, Some, None, cond, nat_eq, refl}
use Rattle.std.specs.HashMap.{get, hash_map_len}
use Rattle.std.specs.Option.{is_some}
use Rattle.std.specs.Result.{is_ok}
use Rattle.si_model.specs.declared.edits.Edit.TheVariants as edit
use Rattle.si_model.specs.declared.transactions.Txn.{Txn}
use Rattle.si_model.specs.declared.refusals.Refusal.TheVariants as refusal
use Rattle.si_model.specs.Edits.{with_id, withdrawal_refusal}
use Rattle.si_accept.specs.Arrivals.{present_in}
use Rattle.si_accept.proofs.PresentInJournal.{placed, withdrawal_txns, withdrawal_kept}
use Rattle.si_accept.proofs.arrivals.Arrivals.withdraw.Goals as goal

journal : (c : goal.After-unwrap) → c.push.new.self.items ≡ c.self.inside.journal.items ++ edit.Withdraw c.args.id ∷ []
journal c =
    c.push.ensures.items
    ∙ ap (λ r. cond (is_ok r) (c.self.inside.journal.items ++ edit.Withdraw c.args.id ∷ []) c.self.inside.journal.items) c.unwrap.ensures

-- the transaction that is there
some_of : (o : Option Txn) → cond (is_some o) None (Some refusal.NoSuch) ≡ None → (T : Txn) × (o ≡ Some T)
some_of None e = cc
some_of (Some T) e = (T, refl)

there : (c : goal.After-unwrap) → (T : Txn) × (with_id (present_in (get nat_eq c.self.inside.places) (get nat_eq c.self.inside.resolved) c.self.inside.journal.items) c.args.id ≡ Some T)
there c = some_of (with_id (present_in (get nat_eq c.self.inside.places) (get nat_eq c.self.inside.resolved) c.self.inside.journal.items) c.args.id) (ap (λ K. withdrawal_refusal K.txns c.args.id) c.self.view_is ∙ c.requires.there)

less : (c : goal.After-unwrap) → hash_map_len c.swap_remove.new.self + 1 ≡ hash_map_len c.self.inside.places
less c =
    let t = there c in
    let p = placed c.self.inside.journal.items (get nat_eq c.self.inside.places) (get nat_eq c.self.inside.resolved) (hash_map_len c.self.inside.places) c.self.invariant c.args.id t.0 t.1 in
    ap (λ o. hash_map_len c.swap_remove.new.self + cond (is_some o) 1 0) (sym (c.swap_remove.ensures.value ∙ p.1)) ∙ c.swap_remove.ensures.len

pub invariant_of-self : goal.invariant_of-self
invariant_of-self c =
    let t = there c in
    rw (journal c) (withdrawal_kept c.self.inside.journal.items (get nat_eq c.self.inside.places) (get nat_eq c.self.inside.resolved) (hash_map_len c.self.inside.places) c.self.invariant c.args.id (get nat_eq c.swap_remove.new.self) (get nat_eq c.swap_remove-2.new.self) c.swap_remove.ensures.updates.0 c.swap_remove-2.ensures.updates.0 t.0 (hash_map_len c.swap_remove.new.self) t.1 (less c))

pub returns-clause-txns : goal.returns-clause-txns
returns-clause-txns c =
    rw (journal c, ← c.self.view_is) (withdrawal_txns c.self.inside.journal.items (get nat_eq c.self.inside.places) (get nat_eq c.self.inside.resolved) (hash_map_len c.self.inside.places) c.self.invariant c.args.id (get nat_eq c.swap_remove.new.self) (get nat_eq c.swap_remove-2.new.self) c.swap_remove.ensures.updates.0 c.swap_remove-2.ensures.updates.0)
