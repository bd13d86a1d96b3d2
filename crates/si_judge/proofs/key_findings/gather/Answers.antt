use Rattle.std.proofs.Common.{◌≡◌, ◌++◌, Bool, false, if◌then◌else◌, subst, sym, true}
use Rattle.si_judge.specs.Indexes.{kept_reads_in}
use Rattle.si_judge.specs.Marks.{AreGathered}
use Rattle.si_judge.proofs.MarkLists.{all_gathered, marked_gathered}
use Rattle.si_judge.proofs.key_findings.gather.Goals as goal
use Rattle.si_judge.proofs.key_findings.gather.Goals.{In_ok-are_few}

-- what was added, by what was answered
added : (c : In_ok-are_few) (b : Bool) → c.in_ok-are_few.are_few ≡ b
    → c.add_few_to.new.reads.items ≡ (if b then c.args.reads.now.items ++ kept_reads_in c.args.indexes.now c.args.value c.args.after else c.args.reads.now.items)
added c b e = subst (λ x. c.add_few_to.new.reads.items ≡ (if x then c.args.reads.now.items ++ kept_reads_in c.args.indexes.now c.args.value c.args.after else c.args.reads.now.items)) e c.in_ok-are_few.ensures

pub returns-then-are_few : goal.returns-then-are_few
returns-then-are_few c = subst (AreGathered (kept_reads_in c.args.indexes.now c.args.value c.args.after) c.args.marks.now c.args.marks.now c.args.reads.now.items)
    (sym (added (goal.at.returns-then-are_few c).In_ok-are_few true c.if-are_few.true))
    (all_gathered c.args.indexes.now c.args.value c.args.after c.args.marks.now c.args.reads.now.items)

pub returns : goal.returns
returns c = subst (AreGathered (kept_reads_in c.args.indexes.now c.args.value c.args.after) c.args.marks.now c.mark.new.self c.args.reads.now.items)
    (sym (added (goal.at.returns c).In_ok-are_few false c.if-are_few.false))
    (marked_gathered c.args.indexes.now c.args.value c.args.after c.args.marks.now c.mark.new.self c.args.reads.now.items c.in_ok-mark.ensures)
