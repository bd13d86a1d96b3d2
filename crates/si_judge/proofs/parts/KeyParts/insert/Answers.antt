use Rattle.std.proofs.Common.{◌≢◌, ◌++◌, ◌∷◌, [], sym, subst}
use Rattle.std.specs.BTreeMap.{values}
use Rattle.std.specs.List.{Contains}
use Rattle.si_model.specs.declared.parts.Part.{Part}
use Rattle.si_model.specs.Laws.{HaveSame}
use Rattle.si_judge.specs.KeyParts.{AreUnderIds}
use Rattle.si_judge.proofs.KeyParts.{names_apart, same_put, under_put}
use Rattle.si_judge.proofs.parts.KeyParts.insert.Goals as goal

pub invariant_of-self : goal.invariant_of-self
invariant_of-self c = record {
  ordered = c.insert.ensures.ordered;
  under = subst AreUnderIds (sym c.in_err-insert.ensures.err) c.self.invariant.under;
}

pub invariant_of-self-2 : goal.invariant_of-self-2
invariant_of-self-2 c = record {
  ordered = c.insert.ensures.ordered;
  under = under_put c.self.inside.parts c.insert.new.self c.self.invariant.ordered c.insert.ensures.ordered c.self.invariant.under c.args.part c.in_ok-insert.ensures.updates.0;
}

pub returns-clause-same : goal.returns-clause-same
returns-clause-same c =
    subst (λ l. HaveSame (l ++ c.args.part ∷ []) (values c.insert.new.self)) c.self.view_is
    (same_put c.self.inside.parts c.insert.new.self c.self.invariant.ordered c.insert.ensures.ordered c.self.invariant.under c.args.part c.in_ok-insert.ensures.updates.0
    (subst (λ l. (X : Part) → Contains l X → X.id ≢ c.args.part.id) (sym c.self.view_is) c.requires))

pub returns-clause-named : goal.returns-clause-named
returns-clause-named c = names_apart c.insert.new.self.entries c.insert.ensures.ordered
    (under_put c.self.inside.parts c.insert.new.self c.self.invariant.ordered c.insert.ensures.ordered c.self.invariant.under c.args.part c.in_ok-insert.ensures.updates.0)
