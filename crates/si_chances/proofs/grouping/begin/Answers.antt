use Rattle.std.proofs.Common.{◌++◌, ◌∷◌, [], ap, ◌∙◌, List, Some, subst, ℕ}
use Rattle.std.specs.HashMap.{Updates}
use Rattle.si_model.specs.Operations.{same_key}
use Rattle.si_chances.specs.declared.grouping.Slot.{Slot}
use Rattle.si_chances.proofs.grouping.begin.Goals as goal

pub returns : goal.returns
returns c = record {
  kept = c.push.new.self;
  items = c.in_ok-push.ensures.items ∙ ap (λ (ss : List Slot). ss ++ c.args.slot ∷ []) c.new-slots.ensures.items;
  updates = subst (λ (x : List ℕ). Updates same_key c.args.groups.now c.insert.new.self x (Some c.push.new.self)) c.in_ok-try_clone.ensures c.in_ok-insert.ensures.updates;
}
