use Rattle.std.proofs.Common.{◌∙◌, ◌++◌, ◌∷◌, [], map, sym, ap}
use Rattle.std.specs.List.{cons_option, filter_map}
use Rattle.std.specs.Map.Iter.{deref_pair}
use Rattle.std.proofs.lemmas.List.{append-nil, map-append}
use Rattle.si_sorted.proofs.Passing.{one_told}
use Rattle.si_sorted.proofs.runs.add_from_tree.Goals as goal

pub loop-key-preserved : goal.loop-key-preserved
loop-key-preserved g c =
    let tells = λ (e : g.row.K.Denot × g.row.V.Denot). g.C.Choice.tells c.args.choice.now e.0 e.1 in
    one_told tells c.args.out.now.items c.loop-key.out.items c.loop-key.out.items (map deref_pair c.loop-key.yielded) c.loop-key.invariant (c.in-Some.key.now, c.in-Some.value.now)
    c.told.result c.told.ensures (sym (append-nil c.loop-key.out.items) ∙ ap (λ o. c.loop-key.out.items ++ cons_option o []) (sym c.in_default.is))
    ∙ ap (λ l. c.args.out.now.items ++ filter_map tells l) (sym (map-append deref_pair c.loop-key.yielded ((c.in-Some.key, c.in-Some.value) ∷ [])))

pub loop-key-preserved-in-Continue-1 : goal.loop-key-preserved-in-Continue-1
loop-key-preserved-in-Continue-1 g c =
    let tells = λ (e : g.row.K.Denot × g.row.V.Denot). g.C.Choice.tells c.args.choice.now e.0 e.1 in
    one_told tells c.args.out.now.items c.loop-key.out.items c.push.new.self.items (map deref_pair c.loop-key.yielded) c.loop-key.invariant (c.in-Some.key.now, c.in-Some.value.now)
    c.told.result c.told.ensures (c.in_ok-push.ensures.items ∙ ap (λ o. c.loop-key.out.items ++ cons_option o []) (sym c.in-Some-told.is))
    ∙ ap (λ l. c.args.out.now.items ++ filter_map tells l) (sym (map-append deref_pair c.loop-key.yielded ((c.in-Some.key, c.in-Some.value) ∷ [])))
