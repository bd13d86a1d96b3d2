use Rattle.std.proofs.Common.{codes, ◌∙◌}
use Rattle.si_text.proofs.UsualLines.{whole_after, committed_word, aborted_word, in_doubt_word}
use Rattle.si_text.proofs.usual_lines.take_status.Goals as goal

pub returns-then-take_whole : goal.returns-then-take_whole
returns-then-take_whole c = committed_word c.args.rest.now c.take_whole.new.self c.if-take_whole.ensures

pub returns-then-take_whole-2 : goal.returns-then-take_whole-2
returns-then-take_whole-2 c = aborted_word c.args.rest.now c.take_whole-2.new.self (whole_after (codes "\"aborted\"") c.args.rest.now c.take_whole.new.self c.take_whole-2.new.self (c.if-take_whole.ensures) c.if-take_whole-2.ensures)

pub returns-then-take_whole-3 : goal.returns-then-take_whole-3
returns-then-take_whole-3 c = in_doubt_word c.args.rest.now c.take_whole-3.new.self (whole_after (codes "\"indoubt\"") c.args.rest.now c.take_whole-2.new.self c.take_whole-3.new.self (c.if-take_whole-2.ensures ∙ c.if-take_whole.ensures) c.if-take_whole-3.ensures)
