use Rattle.std.proofs.Common.{◌≡◌, ◌∙◌, ap, subst, ℕ, ◌+◌, ◌++◌, ◌∷◌, [], length, Some, None, cond, nat_eq}
use Rattle.std.specs.HashMap.{get, hash_map_len, Updates}
use Rattle.std.specs.Result.{is_ok, IfOk, OnOk}
use Rattle.std.specs.Option.{is_some}
use Rattle.si_model.specs.declared.edits.Edit.TheVariants as edit
use Rattle.si_model.specs.Edits.{with_id}
use Rattle.si_accept.specs.Arrivals.{present_in}
use Rattle.si_accept.proofs.PresentInJournal.{arrival_txns, arrival_kept, unplaced}
use Rattle.si_accept.proofs.arrivals.Arrivals.arrive.Goals as goal

journal : (c : goal.After-unwrap-2) → c.push.new.self.items ≡ c.self.inside.journal.items ++ edit.Arrive c.args.txn ∷ []
journal c =
    c.push.ensures.items
    ∙ ap (λ r. cond (is_ok r) (c.self.inside.journal.items ++ edit.Arrive c.args.txn ∷ []) c.self.inside.journal.items) c.unwrap-2.ensures

new : (c : goal.After-unwrap-2) → with_id (present_in (get nat_eq c.self.inside.places) (get nat_eq c.self.inside.resolved) c.self.inside.journal.items) c.args.txn.id ≡ None
new c = ap (λ K. with_id K.txns c.args.txn.id) c.self.view_is ∙ c.requires.new

places : (c : goal.After-unwrap-2) (q : ℕ) → get nat_eq c.insert.new.self q ≡ cond (nat_eq c.args.txn.id.0 q) (Some (length c.self.inside.journal.items)) (get nat_eq c.self.inside.places q)
places c q =
    (subst (λ r. OnOk r (Updates nat_eq c.self.inside.places c.insert.new.self c.args.txn.id.0 (Some c.len.result))) c.unwrap.ensures c.insert.ensures.updates).0 q
    ∙ ap (λ n. cond (nat_eq c.args.txn.id.0 q) (Some n) (get nat_eq c.self.inside.places q)) (c.len.ensures ∙ c.self.inside.journal.ok.0)

many : (c : goal.After-unwrap-2) → hash_map_len c.insert.new.self ≡ hash_map_len c.self.inside.places + 1
many c =
    let old = subst (λ r. IfOk r (λ o. o ≡ get nat_eq c.self.inside.places c.args.txn.id.0)) c.unwrap.ensures c.insert.ensures.old in
    let none = old ∙ unplaced c.self.inside.journal.items (get nat_eq c.self.inside.places) (get nat_eq c.self.inside.resolved) (hash_map_len c.self.inside.places) c.self.invariant c.args.txn (get nat_eq c.insert.new.self) (new c) (places c) in
    subst (λ r. IfOk r (λ o. hash_map_len c.insert.new.self ≡ hash_map_len c.self.inside.places + cond (is_some o) 0 1)) c.unwrap.ensures c.insert.ensures.len
    ∙ ap (λ o. hash_map_len c.self.inside.places + cond (is_some o) 0 1) none

pub invariant_of-self : goal.invariant_of-self
invariant_of-self c =
    let ids = get nat_eq c.self.inside.places in
    let copies = get nat_eq c.self.inside.resolved in
    rw (journal c, many c) (arrival_kept c.self.inside.journal.items ids copies (hash_map_len c.self.inside.places) c.self.invariant c.args.txn (get nat_eq c.insert.new.self) (new c) (places c))

pub returns-clause-txns : goal.returns-clause-txns
returns-clause-txns c =
    let ids = get nat_eq c.self.inside.places in
    let copies = get nat_eq c.self.inside.resolved in
    rw (journal c, ← c.self.view_is) (arrival_txns c.self.inside.journal.items ids copies (hash_map_len c.self.inside.places) c.self.invariant c.args.txn (get nat_eq c.insert.new.self) (new c) (places c))
