use Rattle.std.proofs.Common.{ltb, rules}
use Rattle.std.proofs.lemmas.List.Sorted.{IsNonDecreasingBy-from_sort, IsPartitionPoint-from_clause, IsPartitionedBy-ltb}
use Rattle.si_chances.proofs.InOrder.{count_point}
use Rattle.si_chances.proofs.searches.how_many_below.Goals as goal

pub returns : goal.returns
returns c =
    let xs = c.args.sorted.now in
    count_point (λ m. ltb m c.args.n) xs c.partition_point.result c.partition_point.ensures.bound
    (IsPartitionPoint-from_clause (λ m. ltb m c.args.n) xs c.partition_point.result c.partition_point.ensures.partitioned
    (IsPartitionedBy-ltb (λ m. m) xs c.args.n (IsNonDecreasingBy-from_sort (λ m. m) xs c.requires)) (λ a r f h. search rules))
