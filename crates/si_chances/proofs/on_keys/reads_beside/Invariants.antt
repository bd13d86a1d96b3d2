use Rattle.std.proofs.Common.{◌≡◌, take, sum_by}
use Rattle.si_chances.specs.OnKeys.{reads_beside}
use Rattle.si_chances.proofs.on_keys.reads_beside.Given as goal

abbrev pub invariant-loop-part : goal.invariant-loop-part
invariant-loop-part l = l.count ≡ sum_by (reads_beside l.places l.parts) (take l.part-index l.parts)
