use Rattle.std.proofs.Common.{◌∙◌, ◌∷◌, [], map, sym, ap}
use Rattle.std.specs.List.{find}
use Rattle.std.specs.Map.Iter.{deref_pair}
use Rattle.std.proofs.lemmas.List.{map-append}
use Rattle.si_sorted.proofs.Finding.{one_more}
use Rattle.si_sorted.proofs.finds.find_between.Goals as goal

pub loop-key-preserved : goal.loop-key-preserved
loop-key-preserved g c =
    c.first_of-found.ensures
    ∙ one_more (λ e. g.T.ValueTest.passes c.args.test.now e.1) (map deref_pair c.loop-key.yielded) (c.in-Some.key.now, c.in-Some.value.now) c.loop-key.found c.loop-key.invariant
    ∙ ap (find (λ e. g.T.ValueTest.passes c.args.test.now e.1)) (sym (map-append deref_pair c.loop-key.yielded ((c.in-Some.key, c.in-Some.value) ∷ [])))
