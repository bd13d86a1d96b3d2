use Rattle.si_model.specs.Findings.{finding_at}
use Rattle.si_judge.specs.Found.{kind_in}
use Rattle.si_judge.proofs.FoundLists.{told_added}
use Rattle.si_judge.proofs.found_reads.add_each.Goals as goal

pub loop-entry-preserved : goal.loop-entry-preserved
loop-entry-preserved c = told_added kind_in (finding_at c.args.key.now) c.args.entries.now c.loop-entry.entry-index _ c.loop-entry-test.true c.args.found.now.items c.loop-entry.found.items c.add_one.new.found.items
    c.kind.result c.loop-entry.invariant c.kind.ensures c.in_ok-add_one.ensures
