use Rattle.std.proofs.Common.{◌≡◌, ◌++◌, List}
use Rattle.si_intake.specs.declared.items.Item.{Item as Told}
use Rattle.si_run.proofs.accepters.drop_all.Given as goal

-- more and more was taken
abbrev pub invariant-loop : goal.invariant-loop
invariant-loop g l =
    (goal.iterator-loop g).can_next l.iterator' × (goal.iterator-loop g).is_finite l.iterator'
    × ((more : List Told) × (l.accepter ≡ record l.fn.accepter { taken = l.fn.accepter.taken ++ more }))
