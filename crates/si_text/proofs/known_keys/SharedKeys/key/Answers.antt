use Rattle.std.proofs.Common.{◌≡◌, ◌∷◌, ◌++◌, [], nat_eq, inr, ap, sym, ◌∙◌}
use Rattle.std.proofs.lemmas.List.{map-append}
use Rattle.std.specs.Map.{values_of}
use Rattle.indexmap.proofs.CallerLemmas.{insert_entry-new}
use Rattle.si_text.proofs.known_keys.SharedKeys.key.Goals as goal

pub returns-clause-known : goal.returns-clause-known
returns-clause-known c =
    let known = c.self.inside.known in
    let last = insert_entry-new nat_eq known c.hash_one-hash.result c.in_ok-try_clone.field-0 (sym c.in-None.ensures.value) in
    let text : c.in_ok-try_clone.field-0 ≡ c.args.text.now = c.in_ok-try_clone.ensures ∙ c.in_ok-key.ensures in
    inr (ap values_of (c.in_ok-insert.ensures.entries ∙ last) ∙ map-append _ known.entries _ ∙ (λ i. c.self.view_is i ++ text i ∷ []))
