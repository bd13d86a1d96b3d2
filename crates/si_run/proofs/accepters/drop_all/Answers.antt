use Rattle.std.proofs.Common.{◌≡◌, ◌∙◌, ◌++◌, ◌∷◌, [], List, Option, Some, None, ap, append_assoc}
use Rattle.std.specs.Prelude.{MatchOption}
use Rattle.si_intake.specs.Ends.{Accepting}
use Rattle.si_intake.specs.declared.items.Item.{Item as Told}
use Rattle.si_run.proofs.accepters.drop_all.Goals as goal

-- nothing changed but what was taken, to which more came
abbrev HasTakenMore : Accepting → Accepting → Type 0
HasTakenMore old new = (more : List Told) × (new ≡ record old { taken = old.taken ++ more })

-- one more was taken, or there was none
one_more : (old now new : Accepting) (told : Option Told) → HasTakenMore old now → MatchOption told (new ≡ now) (λ item. new ≡ record now { taken = now.taken ++ item ∷ [] }) → HasTakenMore old new
one_more old now new None so_far same = (so_far.0, same ∙ so_far.1)
one_more old now new (Some item) so_far one = (
  so_far.0 ++ item ∷ [],
  one ∙ ap (λ (a : Accepting). record a { taken = a.taken ++ item ∷ [] }) so_far.1
      ∙ ap (λ (ts : List Told). record old { taken = ts }) (append_assoc old.taken so_far.0 (item ∷ [])),
)

pub loop-preserved : goal.loop-preserved
loop-preserved g c = (tt, tt, one_more c.args.accepter.now c.loop.accepter c.take.new.self c.take.result c.loop.invariant.2 c.take.ensures.taken)
