use Rattle.std.proofs.Common.{◌≡◌, ◌<◌, ◌∙◌, ◌+◌, None, ap, arith, false, length, subst, sym, true}
use Rattle.si_sorted.specs.Entries.{Sets}
use Rattle.si_judge.specs.Found.{count_empty, finds, kind_in, one_if_empty, told_of}
use Rattle.si_judge.specs.Mending.{read_cmp}
use Rattle.si_judge.proofs.FoundLists.{counted_replaced, counts, some_counted, told_emptied}
use Rattle.si_judge.proofs.Listed.{read_total}
use Rattle.si_judge.proofs.found_reads.FoundReads.remove.Goals as goal
use Rattle.si_judge.proofs.found_reads.FoundReads.remove.Goals.{After-replace, In-Some}

emptied : (c : After-replace) → Sets read_cmp c.args.id None c.args.self.now (told_of kind_in c.replace.new.self)
emptied c = subst (λ l. Sets read_cmp c.args.id None l (told_of kind_in c.replace.new.self)) c.self.view_is
    (told_emptied c.args.id c.nothing.result c.replace.result c.self.inside.places c.replace.new.self read_total c.replace.ensures.was_rising c.replace.ensures.rising c.replace.ensures.value c.replace.ensures.entries c.nothing.ensures)

-- how many are empty where a place was there
counted : (c : In-Some) → count_empty c.replace.new.self + one_if_empty c.in-Some.was ≡ count_empty c.self.inside.places + one_if_empty c.nothing.result
counted c = counted_replaced c.args.id c.nothing.result c.in-Some.was c.self.inside.places c.replace.new.self read_total c.replace.ensures.was_rising c.in-Some.ensures.value c.in-Some.ensures.entries

pub overflow_add-self : goal.overflow_add-self
overflow_add-self c =
    let less : count_empty c.self.inside.places < length c.self.inside.places = some_counted c.self.inside.places c.args.id c.in-Some.was c.in-Some.ensures.value (sym c.is_finding.ensures ∙ c.if-is_finding.true) in
    omega (arith, less, c.self.invariant, c.len-count.ensures.count, c.len-count.type_inv)

pub invariant_of-self : goal.invariant_of-self
invariant_of-self c =
    omega (arith, counted (goal.at.invariant_of-self c).In-Some, counts c.nothing.result false (ap finds c.nothing.ensures), counts c.in-Some.was true (sym c.is_finding.ensures ∙ c.if-is_finding.true), c.self.invariant)

pub invariant_of-self-else-is_finding : goal.invariant_of-self-else-is_finding
invariant_of-self-else-is_finding c =
    omega (arith, counted (goal.at.invariant_of-self-else-is_finding c).In-Some, counts c.nothing.result false (ap finds c.nothing.ensures), counts c.in-Some.was false (sym c.is_finding.ensures ∙ c.if-is_finding.false), c.self.invariant)

pub returns-then-is_finding : goal.returns-then-is_finding
returns-then-is_finding c = subst (λ l. Sets read_cmp c.args.id None c.args.self.now l) (sym c.close_up.ensures) (emptied (goal.at.returns-then-is_finding c).After-replace)

pub returns-else-is_finding : goal.returns-else-is_finding
returns-else-is_finding c = emptied (goal.at.returns-else-is_finding c).After-replace

pub returns-in_default : goal.returns-in_default
returns-in_default c = emptied (goal.at.returns-in_default c).After-replace
