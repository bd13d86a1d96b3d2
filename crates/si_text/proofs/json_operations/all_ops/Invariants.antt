use Rattle.si_text.proofs.ArrayItems.{AreRead}
use Rattle.si_text.proofs.json_operations.all_ops.Given as goal

abbrev pub invariant-loop-index : goal.invariant-loop-index
invariant-loop-index l = AreRead l.items l.index l.ops.items
