use Rattle.std.proofs.Common.{◌≡◌, ◌≤◌, take, count_by}
use Rattle.si_chances.specs.OnKeys.{aborted_before}
use Rattle.si_chances.proofs.on_keys.aborted_before.Given as goal

abbrev pub invariant-loop-part : goal.invariant-loop-part
invariant-loop-part l = (l.count ≤ l.part-index) × (l.count ≡ count_by (aborted_before l.stamp) (take l.part-index l.parts))
