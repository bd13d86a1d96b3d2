use Rattle.std.proofs.Common.{◌≡◌, ◌++◌, map}
use Rattle.std.specs.List.{filter_map}
use Rattle.std.specs.Map.Iter.{deref_pair}
use Rattle.si_sorted.proofs.runs.add_from_tree.Given as goal

abbrev pub invariant-loop-key : goal.invariant-loop-key
invariant-loop-key g l = l.out.items ≡ l.initial.out.items ++ filter_map (λ (e : g.row.K.Denot × g.row.V.Denot). g.C.Choice.tells l.choice e.0 e.1) (map deref_pair l.yielded)
