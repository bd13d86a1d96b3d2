use Rattle.std.proofs.Common.{rules, tests}
use Rattle.si_sorted.proofs.Passing.{all_told, entry_told}
use Rattle.si_sorted.proofs.runs.add_told.Goals as goal

-- (it names no branch, since a wrong test gives them other names)
pub loop-entry-preserved : goal.loop-entry-preserved
loop-entry-preserved g c =
    entry_told (λ e. g.C.Choice.tells c.args.choice.now e.0 e.1) c.args.out.now.items c.loop-entry.out.items _ c.args.entries.now c.loop-entry.entry-index c.loop-entry.invariant c.loop-entry-test.true
    c.entry-item.result c.entry-item.is c.told.result c.told.ensures (search (rules, tests))

pub returns : goal.returns
returns g c = all_told (λ e. g.C.Choice.tells c.args.choice.now e.0 e.1) c.args.out.now.items c.loop-entry.out.items c.args.entries.now c.loop-entry.entry-index c.loop-entry-test.false c.loop-entry.invariant
