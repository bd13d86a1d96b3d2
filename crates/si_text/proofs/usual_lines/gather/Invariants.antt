use Rattle.std.proofs.Common.{◌-◌, length}
use Rattle.si_text.proofs.UsualLines.{AreGathered}
use Rattle.si_text.proofs.usual_lines.gather.Given as goal

abbrev pub invariant-ops : goal.invariant-ops
invariant-ops l = AreGathered l.fn.rest l.rest l.ops.items

abbrev pub decreases-ops : goal.decreases-ops
decreases-ops l = 4096 - length l.ops.items
