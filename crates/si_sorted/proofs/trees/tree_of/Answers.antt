use Rattle.std.proofs.Common.{◌∙◌, ap}
use Rattle.std.specs.BTreeMap.{insert_entry}
use Rattle.si_sorted.proofs.Rising.{next_pushed}
use Rattle.si_sorted.proofs.trees.tree_of.Goals as goal

-- the next entry goes to the end of the tree
pub loop-entry-preserved : goal.loop-entry-preserved
loop-entry-preserved g c =
    let entry = c.entry-item.result in
    c.in_ok-insert.ensures.entries
    ∙ ap (λ es. insert_entry g.K.Ord.cmp es entry.0 entry.1) c.loop-entry.invariant
    ∙ next_pushed g.met.K.Ord.total c.args.entries.now c.requires c.loop-entry.entry-index entry c.loop-entry-test.true c.entry-item.is
