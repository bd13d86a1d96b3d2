use Rattle.std.proofs.Common.{◌≡◌, ◌∙◌, ◌++◌, OnOk, ap, subst, sym}
use Rattle.std.specs.BTreeMap.Range.{entries_between}
use Rattle.std.specs.List.{filter_map}
use Rattle.si_sorted.specs.Forms.{entries_in}
use Rattle.si_sorted.proofs.forms.Form.add_between.Goals as goal

pub returns-in-Flat : goal.returns-in-Flat
returns-in-Flat g c =
    subst (λ es. OnOk c.add_from.result (c.add_from.new.out.items ≡ c.args.out.now.items ++ filter_map (λ e. g.C.Choice.tells c.args.choice.now e.0 e.1) (entries_between g.K.Ord.cmp c.args.low c.args.high es)))
    (c.as_slice.ensures.value ∙ sym (ap entries_in c.in-Flat.is)) c.add_from.ensures

pub returns-in-Tree : goal.returns-in-Tree
returns-in-Tree g c =
    subst (λ es. OnOk c.add_from_tree.result (c.add_from_tree.new.out.items ≡ c.args.out.now.items ++ filter_map (λ e. g.C.Choice.tells c.args.choice.now e.0 e.1) (entries_between g.K.Ord.cmp c.args.low c.args.high es)))
    (sym (ap entries_in c.in-Tree.is)) c.add_from_tree.ensures
