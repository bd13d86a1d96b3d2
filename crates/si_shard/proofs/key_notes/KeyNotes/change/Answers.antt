use Rattle.si_shard.proofs.Noted.{changed_lent, keeps_lent, would_show_lent}
use Rattle.si_shard.proofs.key_notes.KeyNotes.change.Goals as goal

pub make_change-requires : goal.make_change-requires
make_change-requires c = let can = c.requires in (can.0, would_show_lent c.args.kept.now c.lend.new.kept c.lend.ensures.kept can.0 can.1, can.2)

pub returns-clause-changed : goal.returns-clause-changed
returns-clause-changed c = changed_lent c.args.change.now c.args.kept.now c.lend.new.kept c.make_change.new.kept c.gather.new.kept c.lend.ensures.kept c.in_ok-make_change.ensures.changed c.in_ok-gather.ensures.kept

pub returns-clause-noted : goal.returns-clause-noted
returns-clause-noted c = keeps_lent c.args.key.now c.args.kept.now c.lend.new.kept c.make_change.new.kept c.gather.new.kept c.args.self.now c.lend.new.self c.gather.new.self
    c.lend.ensures.kept c.lend.ensures.lent c.lend.ensures.changes c.in_ok-make_change.ensures.noted c.in_ok-gather.ensures.kept c.in_ok-gather.ensures.gathered
