use Rattle.std.proofs.Common.{◌≡◌, ◌∙◌, ◌+◌, Some, ap, arith, false, subst, sym, true}
use Rattle.std.specs.BTreeMap.{insert_entry}
use Rattle.si_sorted.specs.Entries.{Sets}
use Rattle.si_judge.specs.Found.{count_empty, kind_in, one_if_empty, told_of}
use Rattle.si_judge.specs.Mending.{read_cmp}
use Rattle.si_judge.proofs.FoundLists.{counted_inserted, counted_replaced, counts, told_inserted, told_replaced}
use Rattle.si_judge.proofs.Listed.{read_total}
use Rattle.si_judge.proofs.found_reads.FoundReads.fill.Goals as goal
use Rattle.si_judge.proofs.found_reads.FoundReads.fill.Goals.{In-Some}

-- how many are empty where a place was there
counted : (c : In-Some) → count_empty c.replace.new.self + one_if_empty c.in-Some.was ≡ count_empty c.self.inside.places + one_if_empty c.args.found
counted c = counted_replaced c.args.id c.args.found c.in-Some.was c.self.inside.places c.replace.new.self read_total c.replace.ensures.was_rising c.in-Some.ensures.value c.in-Some.ensures.entries

filled : (c : In-Some) → Sets read_cmp c.args.id (kind_in c.args.id c.args.found) c.args.self.now (told_of kind_in c.replace.new.self)
filled c = subst (λ l. Sets read_cmp c.args.id (kind_in c.args.id c.args.found) l (told_of kind_in c.replace.new.self)) c.self.view_is
    (told_replaced c.args.id c.args.found (Some c.in-Some.was) c.self.inside.places c.replace.new.self read_total c.replace.ensures.was_rising c.replace.ensures.rising c.in-Some.ensures.value c.in-Some.ensures.entries)

pub overflow_sub-self : goal.overflow_sub-self
overflow_sub-self c = omega (arith, counted (goal.at.overflow_sub-self c).In-Some, counts c.args.found true c.requires, counts c.in-Some.was false (sym c.is_finding.ensures ∙ c.if-not-is_finding.true), c.self.invariant)

pub invariant_of-self : goal.invariant_of-self
invariant_of-self c = omega (arith, counted (goal.at.invariant_of-self c).In-Some, counts c.args.found true c.requires, counts c.in-Some.was false (sym c.is_finding.ensures ∙ c.if-not-is_finding.true), c.self.invariant)

pub invariant_of-self-else-not-is_finding : goal.invariant_of-self-else-not-is_finding
invariant_of-self-else-not-is_finding c =
    omega (arith, counted (goal.at.invariant_of-self-else-not-is_finding c).In-Some, counts c.args.found true c.requires, counts c.in-Some.was true (sym c.is_finding.ensures ∙ c.if-not-is_finding.false), c.self.invariant)

pub invariant_of-self-in-Continue-1 : goal.invariant_of-self-in-Continue-1
invariant_of-self-in-Continue-1 c =
    let same = counted_inserted c.args.id c.args.found c.self.inside.places c.insert.new.self read_total c.replace.ensures.was_rising c.in-None.ensures.value
    (c.in_ok-insert-in-None.ensures.ok ∙ ap (λ es. insert_entry read_cmp es c.args.id c.args.found) c.in-None.ensures.entries) in
    omega (arith, same, counts c.args.found true c.requires, c.self.invariant)

pub returns-then-not-is_finding : goal.returns-then-not-is_finding
returns-then-not-is_finding c = filled (goal.at.returns-then-not-is_finding c).In-Some

pub returns-else-not-is_finding : goal.returns-else-not-is_finding
returns-else-not-is_finding c = filled (goal.at.returns-else-not-is_finding c).In-Some

pub returns-in_ok-insert-in-None : goal.returns-in_ok-insert-in-None
returns-in_ok-insert-in-None c = subst (λ l. Sets read_cmp c.args.id (kind_in c.args.id c.args.found) l (told_of kind_in c.insert.new.self)) (ap (told_of kind_in) c.in-None.ensures.entries ∙ c.self.view_is)
    (told_inserted c.args.id c.args.found c.replace.new.self c.insert.new.self read_total c.replace.ensures.rising c.in_ok-insert-in-None.ensures.rising c.in_ok-insert-in-None.ensures.sets)
