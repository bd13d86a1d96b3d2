use Rattle.std.proofs.Common.{◌≡◌, ◌++◌, drop}
use Rattle.std.specs.List.{filter_map, enumerate_from}
use Rattle.si_model.specs.Parts.{placed_at, accesses}
use Rattle.si_shard.proofs.single_edits.accesses_from.Given as goal

abbrev pub invariant-loop-place : goal.invariant-loop-place
invariant-loop-place l = l.found ++ filter_map (placed_at l.key) (enumerate_from l.place (drop l.place l.ops)) ≡ accesses l.key l.ops
