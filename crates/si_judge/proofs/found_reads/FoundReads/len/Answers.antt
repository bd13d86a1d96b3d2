use Rattle.std.proofs.Common.{ap, arith, length, subst}
use Rattle.std.specs.List.Sorted.{IsStrictlySortedBy}
use Rattle.std.specs.Map.{keys_of}
use Rattle.si_judge.specs.Found.{kind_in}
use Rattle.si_judge.specs.Mending.{read_cmp}
use Rattle.si_judge.proofs.FoundLists.{all_counted, empty_within, rising_told}
use Rattle.si_judge.proofs.found_reads.FoundReads.len.Goals as goal

pub overflow_sub-result : goal.overflow_sub-result
overflow_sub-result c = omega (arith, empty_within c.self.inside.places, c.self.invariant, c.len.ensures.count)

pub returns-clause-count : goal.returns-clause-count
returns-clause-count c = omega (arith, all_counted c.self.inside.places, c.self.invariant, c.len.ensures.count, ap length c.self.view_is)

pub returns-clause-rising : goal.returns-clause-rising
returns-clause-rising c = subst (λ l. IsStrictlySortedBy read_cmp (keys_of l)) c.self.view_is (rising_told kind_in read_cmp c.self.inside.places c.len.ensures.rising)
