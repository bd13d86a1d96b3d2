use Rattle.std.proofs.Common.{◌≡◌, ◌∙◌, Some, refl, sym, subst}
use Rattle.std.specs.BTreeMap.{get, values}
use Rattle.std.specs.List.{Contains}
use Rattle.std.specs.Option.{IsSome}
use Rattle.si_judge.specs.KeyParts.{IsLeftBy, id_cmp}
use Rattle.si_judge.proofs.KeyParts.{left_by, names_apart, stands, taken_is, under_left}
use Rattle.si_judge.proofs.parts.KeyParts.remove.Goals as goal

-- the transaction that is asked for stands under its id
pub unwrap-requires : goal.unwrap-requires
unwrap-requires c =
    let m = c.self.inside.parts in
    let T = c.requires.0 in
    let e : get id_cmp m c.args.id ≡ Some T = subst (λ u. get id_cmp m u ≡ Some T) c.requires.2 (stands m c.self.invariant.ordered c.self.invariant.under T (subst (λ l. Contains l T) (sym c.self.view_is) c.requires.1)) in
    subst IsSome (sym (c.remove.ensures.value ∙ e)) refl

module _ (c : goal.After-unwrap) where
  held : get id_cmp c.self.inside.parts c.args.id ≡ Some c.unwrap.result
  held = sym c.remove.ensures.value ∙ c.unwrap.ensures

pub invariant_of-self : goal.invariant_of-self
invariant_of-self c = record {
  ordered = c.remove.ensures.ordered;
  under = under_left c.self.inside.parts c.remove.new.self c.self.invariant.ordered c.remove.ensures.ordered c.self.invariant.under c.args.id c.unwrap.result (held c) c.remove.ensures.updates.0;
}

pub returns-clause-id : goal.returns-clause-id
returns-clause-id c = taken_is c.self.inside.parts c.remove.new.self c.self.invariant.ordered c.remove.ensures.ordered c.self.invariant.under c.args.id c.unwrap.result (held c) c.remove.ensures.updates.0

pub returns-clause-left : goal.returns-clause-left
returns-clause-left c =
    subst (λ l. IsLeftBy c.unwrap.result l (values c.remove.new.self)) c.self.view_is
    (left_by c.self.inside.parts c.remove.new.self c.self.invariant.ordered c.remove.ensures.ordered c.self.invariant.under c.args.id c.unwrap.result (held c) c.remove.ensures.updates.0)

pub returns-clause-named : goal.returns-clause-named
returns-clause-named c = names_apart c.remove.new.self.entries c.remove.ensures.ordered
    (under_left c.self.inside.parts c.remove.new.self c.self.invariant.ordered c.remove.ensures.ordered c.self.invariant.under c.args.id c.unwrap.result (held c) c.remove.ensures.updates.0)
