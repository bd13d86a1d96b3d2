use Rattle.std.proofs.Common.{◌≡◌, ◌∙◌, ◌++◌, IfOk, ap, if◌then◌else◌, subst, sym}
use Rattle.std.specs.BTreeMap.Range.{entries_between}
use Rattle.std.specs.List.{filter_map}
use Rattle.si_sorted.specs.Forms.{entries_in}
use Rattle.si_sorted.proofs.forms.Form.add_few_between.Goals as goal

pub returns-in-Flat : goal.returns-in-Flat
returns-in-Flat g c =
    subst (λ es. IfOk c.add_few_from.result (λ few. c.add_few_from.new.out.items
    ≡ (if few then c.args.out.now.items ++ filter_map (λ e. g.C.Choice.tells c.args.choice.now e.0 e.1) (entries_between g.K.Ord.cmp c.args.low c.args.high es) else c.args.out.now.items)))
    (c.as_slice.ensures.value ∙ sym (ap entries_in c.in-Flat.is)) c.add_few_from.ensures

pub returns-in-Tree : goal.returns-in-Tree
returns-in-Tree g c =
    subst (λ es. IfOk c.add_few_from_tree.result (λ few. c.add_few_from_tree.new.out.items
    ≡ (if few then c.args.out.now.items ++ filter_map (λ e. g.C.Choice.tells c.args.choice.now e.0 e.1) (entries_between g.K.Ord.cmp c.args.low c.args.high es) else c.args.out.now.items)))
    (sym (ap entries_in c.in-Tree.is)) c.add_few_from_tree.ensures
