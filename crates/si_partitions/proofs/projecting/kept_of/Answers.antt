use Rattle.std.proofs.Common.{◌≡◌, length, take, ap, ◌∙◌, arith}
use Rattle.std.specs.List.{count_by}
use Rattle.std.proofs.lemmas.List.{length-take}
use Rattle.std.proofs.lemmas.List.Sums.{length-filter, count_by-le-length}
use Rattle.si_partitions.specs.Partitions.{has_op}
use Rattle.si_partitions.proofs.projecting.kept_of.Goals as goal

pub returns-clause-within : goal.returns-clause-within
returns-clause-within c =
    let ops = take c.loop-op.op-index c.args.ops.now in
    let same : length c.loop-op.kept.items ≡ count_by (has_op c.args.partition) ops = ap length c.loop-op.invariant ∙ length-filter (has_op c.args.partition) ops in
    omega (arith, same, count_by-le-length (has_op c.args.partition) ops, length-take c.loop-op.op-index c.args.ops.now, c.requires.within)
