use Rattle.std.proofs.Common.{◌≡◌, ◌++◌, take}
use Rattle.std.specs.List.{filter_map}
use Rattle.si_sorted.proofs.runs.add_told.Given as goal

abbrev pub invariant-loop-entry : goal.invariant-loop-entry
invariant-loop-entry g l = l.out.items ≡ l.initial.out.items ++ filter_map (λ e. g.C.Choice.tells l.choice e.0 e.1) (take l.entry-index l.entries)
