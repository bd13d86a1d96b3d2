use Rattle.std.proofs.Common.{◌≡◌, ◌&&◌, take, nat_lt}
use Rattle.std.specs.List.{list_any}
use Rattle.si_model.specs.declared.numbers.Stamp.{Stamp}
use Rattle.si_model.specs.Chances.{commits_after, writes_key}
use Rattle.si_chances.proofs.on_keys.last_installer.Given as goal

abbrev pub invariant-loop-part : goal.invariant-loop-part
invariant-loop-part l = (s : Stamp) → list_any (λ T. commits_after s T.status && writes_key T) (take l.part-index l.parts) ≡ nat_lt s.0 l.last
