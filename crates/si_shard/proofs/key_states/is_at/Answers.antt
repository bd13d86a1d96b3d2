use Rattle.std.proofs.Common.{◌∙◌, Some, ap, sym}
use Rattle.std.specs.HashMap.{get}
use Rattle.si_model.specs.Operations.{same_key}
use Rattle.si_model.proofs.Equalities.{same_key_is}
use Rattle.si_shard.proofs.key_states.is_at.Goals as goal

pub returns-in-Some : goal.returns-in-Some
returns-in-Some c = λ yes.
    let same = same_key_is c.in-Some.there.now c.args.key.now (sym c.eq.ensures ∙ yes) in
    let s = c.in-Some.field-0-1.now in (
      s,
      sym c.in-Some.ensures.entry ∙ ap (λ x. Some (x, s)) same,
      ap (get same_key c.args.states.now) (sym same) ∙ c.in-Some.ensures.value,
    )
