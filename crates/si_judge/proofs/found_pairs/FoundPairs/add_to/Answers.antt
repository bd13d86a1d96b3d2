use Rattle.std.proofs.Common.{◌≡◌, ◌∙◌, ◌++◌, OnOk, Some, ap, map, subst}
use Rattle.std.specs.BTreeMap.Range.{entries_between}
use Rattle.std.specs.List.{filter_map}
use Rattle.std.specs.List.Sorted.{IsStrictlySortedBy}
use Rattle.std.specs.Map.{keys_of, values_of}
use Rattle.std.specs.declared.ops.Bound.TheVariants.{Unbounded}
use Rattle.si_model.specs.Findings.{finding_at}
use Rattle.si_judge.specs.Found.{overlap_in, told_of}
use Rattle.si_judge.specs.Mending.{stamp_cmp}
use Rattle.si_judge.proofs.FoundLists.{all_between, rising_told}
use Rattle.si_judge.proofs.found_pairs.FoundPairs.add_to.Goals as goal

pub returns-in-Some-clause-rising : goal.returns-in-Some-clause-rising
returns-in-Some-clause-rising c = subst (λ l. IsStrictlySortedBy stamp_cmp (keys_of l)) c.self.view_is (rising_told overlap_in stamp_cmp c.self.inside.pairs c.len-rising.ensures.rising)

pub returns-in_err-add_between-clause-rising : goal.returns-in_err-add_between-clause-rising
returns-in_err-add_between-clause-rising c = subst (λ l. IsStrictlySortedBy stamp_cmp (keys_of l)) c.self.view_is (rising_told overlap_in stamp_cmp c.self.inside.pairs c.len-rising.ensures.rising)

pub returns-clause-rising : goal.returns-clause-rising
returns-clause-rising c = subst (λ l. IsStrictlySortedBy stamp_cmp (keys_of l)) c.self.view_is (rising_told overlap_in stamp_cmp c.self.inside.pairs c.len-rising.ensures.rising)

pub returns-clause-added : goal.returns-clause-added
returns-clause-added c =
    let at = finding_at c.args.key.now in
    let all = c.as_slice.ensures.value ∙ c.in_ok-add_between.ensures
    ∙ ap (λ l. l ++ filter_map (λ e. Some (e.0, e.1)) (entries_between stamp_cmp Unbounded Unbounded c.self.inside.pairs)) c.new-all.ensures.items ∙ all_between stamp_cmp c.self.inside.pairs in
    subst (λ l. OnOk c.add_each-2.result (c.add_each-2.new.found.items ≡ c.args.found.now.items ++ map at (values_of l))) (ap (told_of overlap_in) all ∙ c.self.view_is) c.add_each-2.ensures
