use Rattle.std.proofs.Common.{◌≡◌, ◌≤◌, take, count_by}
use Rattle.si_chances.specs.OnKeys.{installed_in}
use Rattle.si_chances.proofs.on_keys.installed_among.Given as goal

abbrev pub invariant-loop-part : goal.invariant-loop-part
invariant-loop-part l = (l.count ≤ l.part-index) × (l.count ≡ count_by (installed_in l.values) (take l.part-index l.parts))
