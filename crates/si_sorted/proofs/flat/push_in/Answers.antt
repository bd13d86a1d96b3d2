use Rattle.std.proofs.Common.{◌∙◌, ◌++◌, ◌∷◌, [], ap, sym, subst}
use Rattle.std.specs.List.Sorted.{IsStrictlySortedBy}
use Rattle.std.specs.Map.{keys_of}
use Rattle.si_sorted.proofs.Edits.{push_at_gap}
use Rattle.si_sorted.proofs.Rising.{rising_inserted}
use Rattle.si_sorted.proofs.flat.push_in.Goals as goal

pub returns-clause-ok : goal.returns-clause-ok
returns-clause-ok g c =
    c.in_ok-push.ensures.items
    ∙ ap (λ es. es ++ (c.args.key, c.args.value) ∷ []) c.make_room.ensures
    ∙ push_at_gap g.K.Ord.cmp c.args.key c.args.value c.args.entries.now.items c.requires.past

pub returns-clause-rising : goal.returns-clause-rising
returns-clause-rising g c =
    subst (λ es. IsStrictlySortedBy g.K.Ord.cmp (keys_of es)) (sym (returns-clause-ok g c))
    (rising_inserted g.met.K.Ord.total c.args.key c.args.value c.args.entries.now.items c.requires.rising)
