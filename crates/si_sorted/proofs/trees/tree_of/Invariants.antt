use Rattle.std.proofs.Common.{◌≡◌, take}
use Rattle.si_sorted.proofs.trees.tree_of.Given as goal

abbrev pub invariant-loop-entry : goal.invariant-loop-entry
invariant-loop-entry g l = l.tree.entries ≡ take l.entry-index l.entries
