use Rattle.std.proofs.Common.{◌≡◌, take}
use Rattle.std.specs.List.{list_any}
use Rattle.si_model.specs.declared.numbers.Value.{Value}
use Rattle.si_chances.specs.Values.{returns_other}
use Rattle.si_chances.proofs.Returned.{has}
use Rattle.si_chances.proofs.values.returned.Given as goal

abbrev pub invariant-loop-part : goal.invariant-loop-part
invariant-loop-part l = (v : Value) → has l.found.items v ≡ list_any (returns_other v) (take l.part-index l.parts)
