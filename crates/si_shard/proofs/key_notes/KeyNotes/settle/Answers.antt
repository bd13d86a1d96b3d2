use Rattle.std.proofs.Common.{◌∙◌, ap}
use Rattle.si_judge.specs.Kept.{Kept}
use Rattle.si_shard.proofs.Noted.{keeps_lent, shows_lent, would_show_lent}
use Rattle.si_shard.proofs.key_notes.KeyNotes.settle.Goals as goal

pub returns-clause-ok : goal.returns-clause-ok
returns-clause-ok c = λ M would. shows_lent c.settle.new.self c.gather.new.kept c.in_ok-gather.ensures.kept M (c.in_ok-settle.ensures.ok M (would_show_lent c.args.kept.now c.lend.new.kept c.lend.ensures.kept M would))

pub returns-clause-marks : goal.returns-clause-marks
returns-clause-marks c = ap (λ (k : Kept). k.marks) c.in_ok-gather.ensures.kept ∙ c.in_ok-settle.ensures.marks

pub returns-clause-key : goal.returns-clause-key
returns-clause-key c = ap (λ (k : Kept). k.key) c.in_ok-gather.ensures.kept ∙ c.in_ok-settle.ensures.key ∙ ap (λ (k : Kept). k.key) c.lend.ensures.kept

pub returns-clause-noted : goal.returns-clause-noted
returns-clause-noted c = keeps_lent c.args.key.now c.args.kept.now c.lend.new.kept c.settle.new.self c.gather.new.kept c.args.self.now c.lend.new.self c.gather.new.self
    c.lend.ensures.kept c.lend.ensures.lent c.lend.ensures.changes c.in_ok-settle.ensures.noted c.in_ok-gather.ensures.kept c.in_ok-gather.ensures.gathered
