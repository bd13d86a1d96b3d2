use Rattle.std.proofs.Common.{◌≡◌, ℕ, ◌+◌, ◌<◌, List, ◌++◌, length, get_or, map, take, drop, ◌∙◌, ap, sym}
use Rattle.std.proofs.Math.ListN.{set}
use Rattle.std.proofs.lemmas.List.Edits.{map_over_more}
use Rattle.si_model.specs.Edits.{resolved}
use Rattle.si_model.proofs.plain.resolve.Goals as goal

-- one more element is what f gives of it
over_more : {X : Type 0} (f : X → X) (xs ys : List X) (i : ℕ) (x y : X) → i < length xs → ys ≡ map f (take i xs) ++ drop i xs → x ≡ get_or ys i x → y ≡ f (get_or ys i x) → set ys i y ≡ map f (take (i + 1) xs) ++ drop (i + 1) xs
over_more f xs ys i x y lt so_far at e = rw (e ∙ ap f (sym at)) (map_over_more f xs ys i x lt so_far at)

pub loop-txn-preserved : goal.loop-txn-preserved
loop-txn-preserved c = over_more (resolved c.args.id c.args.outcome) _ _ _ c.txn-item.result _ c.loop-txn-test.true c.loop-txn.invariant c.txn-item.is c.resolve_one.ensures
