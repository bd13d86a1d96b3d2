use Rattle.std.proofs.Common.{◌≡◌, ◌∙◌, ◌<◌, ◌==◌, ◌&&◌, Bool, true, length, Some, eq-eqb, rules, ap, sym}
use Rattle.std.proofs.lemmas.Bool.{and_parts}
use Rattle.std.proofs.lemmas.Option.{slice_get-get_or, slice_get_within}
use Rattle.si_lists.proofs.Members.{get_contains, same_some}
use Rattle.si_model.specs.KeyTexts.{shard_hash}
use Rattle.si_model.specs.Operations.{same_key}
use Rattle.si_model.proofs.Equalities.{same_key_from, same_key_is}
use Rattle.si_shard.proofs.single_edits.is_at.Goals as goal

both : (a b : Bool) → a ≡ true → b ≡ true → (a && b) ≡ true
both a b p q = ap (λ c. c && b) p ∙ q

pub returns-in-Some : goal.returns-in-Some
returns-in-Some c =
    let d = c.in-Some.entry.now in
    let key = c.args.key.now in
    let within : c.args.index < length c.args.list.now = (let l = c.in-Some.ensures.lookup.0 in search rules) in
    let at = slice_get-get_or c.args.list.now c.args.index d within ∙ ap Some (sym c.in-Some.ensures.lookup.1) in
    let hash = c.requires d (get_contains c.args.list.now c.args.index d at) in (
      λ yes. (d, at, same_key_is d.1.now key (and_parts (d.0 == shard_hash key) (same_key d.1.now key) (sym c.is_on.ensures ∙ yes)).1),
      λ k.
          let same : d.1.now ≡ key = ap (λ q. q.1.now) (same_some (sym at ∙ k.1)) ∙ k.2 in
          c.is_on.ensures ∙ both (d.0 == shard_hash key) (same_key d.1.now key) (eq-eqb d.0 (shard_hash key) (hash ∙ ap shard_hash same)) (same_key_from d.1.now key same),
    )

pub returns-in-None : goal.returns-in-None
returns-in-None c = (
  λ no. cc,
  λ k. absurd (let l = slice_get_within c.args.list.now c.args.index k.0 k.1 in let none = c.in-None.ensures.lookup.0 in search rules),
)
