use Rattle.std.proofs.Common.{subst, sym}
use Rattle.std.specs.List.Sorted.{IsStrictlySortedBy}
use Rattle.std.specs.Map.{keys_of}
use Rattle.si_sorted.specs.Forms.{entries_in}
use Rattle.si_sorted.proofs.Rising.{rising_kept}
use Rattle.si_sorted.proofs.forms.Form.retain.Goals as goal

pub returns-in-Flat-clause-rising : goal.returns-in-Flat-clause-rising
returns-in-Flat-clause-rising g c =
    subst (λ es. IsStrictlySortedBy g.K.Ord.cmp (keys_of es)) (sym c.retain_in.ensures)
    (rising_kept g.met.K.Ord.total (λ e. g.T.ValueTest.passes c.args.test.now e.1) c.in-Flat.entries.items (subst (λ f. IsStrictlySortedBy g.K.Ord.cmp (keys_of (entries_in f))) c.in-Flat.is c.requires))

pub returns-in-Tree-clause-rising : goal.returns-in-Tree-clause-rising
returns-in-Tree-clause-rising g c =
    subst (λ es. IsStrictlySortedBy g.K.Ord.cmp (keys_of es)) (sym c.retain_in_tree.ensures)
    (rising_kept g.met.K.Ord.total (λ e. g.T.ValueTest.passes c.args.test.now e.1) c.in-Tree.tree.entries (subst (λ f. IsStrictlySortedBy g.K.Ord.cmp (keys_of (entries_in f))) c.in-Tree.is c.requires))
