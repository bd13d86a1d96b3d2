use Rattle.std.proofs.Common.{◌≡◌, take}
use Rattle.std.specs.List.{filter}
use Rattle.si_partitions.specs.Partitions.{has_op}
use Rattle.si_partitions.proofs.projecting.kept_of.Given as goal

abbrev pub invariant-loop-op : goal.invariant-loop-op
invariant-loop-op l = l.kept.items ≡ filter (has_op l.partition) (take l.op-index l.ops)
