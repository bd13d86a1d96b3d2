use Rattle.std.proofs.Common.{◌∙◌, sym}
use Rattle.si_sorted.proofs.Finding.{next_fails, next_passes}
use Rattle.si_sorted.proofs.finds.find_in.Goals as goal

pub returns-then-wants : goal.returns-then-wants
returns-then-wants g c =
    next_passes (λ e. g.T.ValueTest.passes c.args.test.now e.1) c.args.entries.now c.loop-entry.entry-index c.entry-item.result c.loop-entry.invariant c.loop-entry-test.true c.entry-item.is
    (sym c.wants.ensures ∙ c.if-wants.true)

pub loop-entry-preserved : goal.loop-entry-preserved
loop-entry-preserved g c =
    next_fails (λ e. g.T.ValueTest.passes c.args.test.now e.1) c.args.entries.now c.loop-entry.entry-index c.entry-item.result c.loop-entry.invariant c.loop-entry-test.true c.entry-item.is
    (sym c.wants.ensures ∙ c.if-wants.false)
