use Rattle.std.proofs.Common.{◌≡◌, ◌++◌, drop}
use Rattle.std.specs.List.{filter_map}
use Rattle.si_model.specs.Findings.{cases, placed_kind}
use Rattle.si_model.proofs.findings.add_read_kinds.Given as goal

abbrev pub invariant-loop-placed : goal.invariant-loop-placed
invariant-loop-placed l = l.kinds.items ++ filter_map (placed_kind cases l.on_key l.part) (drop l.placed-index l.placed-items) ≡ l.fn.kinds.items ++ filter_map (placed_kind cases l.on_key l.part) l.placed-items
