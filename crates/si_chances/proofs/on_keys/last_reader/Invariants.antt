use Rattle.std.proofs.Common.{◌≡◌, take, nat_lt}
use Rattle.std.specs.List.{list_any}
use Rattle.si_model.specs.declared.numbers.Stamp.{Stamp}
use Rattle.si_model.specs.Chances.{reads_after}
use Rattle.si_chances.proofs.on_keys.last_reader.Given as goal

abbrev pub invariant-loop-part : goal.invariant-loop-part
invariant-loop-part l = (s : Stamp) → list_any (reads_after s) (take l.part-index l.parts) ≡ nat_lt s.0 l.last
