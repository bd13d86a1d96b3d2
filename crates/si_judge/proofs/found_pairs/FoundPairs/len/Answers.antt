use Rattle.std.proofs.Common.{◌∙◌, ap, length, subst, sym}
use Rattle.std.specs.List.Sorted.{IsStrictlySortedBy}
use Rattle.std.specs.Map.{keys_of}
use Rattle.si_judge.specs.Found.{overlap_in}
use Rattle.si_judge.specs.Mending.{stamp_cmp}
use Rattle.si_judge.proofs.FoundLists.{pairs_told, rising_told}
use Rattle.si_judge.proofs.found_pairs.FoundPairs.len.Goals as goal

pub returns-clause-count : goal.returns-clause-count
returns-clause-count c = c.len.ensures.count ∙ sym (pairs_told c.self.inside.pairs) ∙ ap length c.self.view_is

pub returns-clause-rising : goal.returns-clause-rising
returns-clause-rising c = subst (λ l. IsStrictlySortedBy stamp_cmp (keys_of l)) c.self.view_is (rising_told overlap_in stamp_cmp c.self.inside.pairs c.len.ensures.rising)
